use Prim.Native.Nat.{◌-◌}
use lib.ListN.{length}
use Rattle.read_pass.specs.PassLaws.{Passing}
use Rattle.read_pass.proofs.pass.Given as goal

abbrev pub invariant-loop-from : goal.invariant-loop-from
invariant-loop-from l = Passing l.text l.initial.out l.from l.p l.n l.out

abbrev pub decreases-loop-from : goal.decreases-loop-from
decreases-loop-from l = length l.text - l.from
