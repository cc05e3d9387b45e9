-- k levels are behind, and those above t are ahead.
use Rattle.std.proofs.Common.{◌≡◌, ◌≤◌, ◌+◌, ◌-◌}
use Rattle.meaning.specs.Hierarchy.{levels, depth}
use Rattle.tables.specs.Given.{given}
use Rattle.tables.proofs.ChartTables.depth.Given as goal

abbrev pub invariant-loop-k : goal.invariant-loop-k
invariant-loop-k l = depth (given l.self) l.s ≡ l.k + levels (given l.self) (9 - l.k) l.t
