-- So far as the loop has come, n counts the sub-states.
use Rattle.std.proofs.Common.{◌≡◌, ◌≤◌}
use Rattle.meaning.specs.Rows.{count}
use Rattle.meaning.specs.Hierarchy.{sub_state}
use Rattle.tables.specs.Given.{given}
use Rattle.tables.proofs.ChartTables.sub_states.Given as goal

abbrev pub invariant-loop-s : goal.invariant-loop-s
invariant-loop-s l = (l.n ≤ l.s) × (l.n ≡ count (sub_state (given l.self) l.a) l.s)
