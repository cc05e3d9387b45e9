-- With k levels behind, the rest of the walk from s is the walk from the root.
use Rattle.std.proofs.Common.{◌≡◌, ◌-◌}
use Rattle.meaning.specs.Machine.{remembered}
use Rattle.chart_paths.specs.Walk.{walk}
use Rattle.chart_paths.proofs.active_leaf.Given as goal

abbrev pub invariant-loop-k : goal.invariant-loop-k
invariant-loop-k l = walk (remembered l.memory) (8 - l.k) l.s ≡ walk (remembered l.memory) 8 0
