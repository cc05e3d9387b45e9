-- The states below s are counted.
use Rattle.std.proofs.Common.{◌≡◌, ◌≤◌, max}
use Rattle.meaning.specs.Hierarchy.{sub_state}
use Rattle.tables.specs.Given.{given}
use Rattle.layout.specs.Laid.{tally}
use Rattle.layout.proofs.sub_states_each.Given as goal

abbrev pub invariant-loop-s : goal.invariant-loop-s
invariant-loop-s l = (l.s ≤ max l.s-end 1) × (l.counts ≡ tally (sub_state (given l.t)) l.s)
