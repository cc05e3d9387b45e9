-- The states below s have their codes.
use Rattle.std.proofs.Common.{◌≡◌, ◌≤◌, max}
use Rattle.meaning.specs.Layout.{other_sub_state}
use Rattle.tables.specs.Given.{given}
use Rattle.layout.specs.Laid.{tally, row, given_code}
use Rattle.layout.proofs.codes_of.Given as goal

abbrev pub invariant-loop-s : goal.invariant-loop-s
invariant-loop-s l =
    (l.s ≤ max l.s-end 1) × (l.others ≡ tally (other_sub_state (given l.t)) l.s) × (l.codes ≡ row (given_code (given l.t)) l.s)
