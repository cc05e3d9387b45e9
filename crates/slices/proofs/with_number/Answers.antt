-- By where the number stands: from 1 to 64 it has a bit.
use Rattle.std.proofs.Common.{arith}
use Prim.Native.Nat.{◌-◌}
use borrow.Author.Tests.{le-leb, lt-leb}
use Rattle.meaning.proofs.Laws.Bits.{weight}
use Rattle.slices.specs.Numbers.{with_number}
use Rattle.slices.proofs.with_number.Goals as goal

pub returns-in-1-to-64 : goal.returns-in-1-to-64
unfolding with_number
returns-in-1-to-64 c = let n = c.args.n in rw (le-leb 1 n (omega arith), le-leb n 64 (omega arith), weight (n - 1) (omega arith))

pub returns-in_default : goal.returns-in_default
unfolding with_number
returns-in_default c = rw (lt-leb 1 c.args.n (omega arith))

pub returns-in_default-2 : goal.returns-in_default-2
unfolding with_number
returns-in_default-2 c = rw (le-leb 1 c.args.n (omega arith), lt-leb c.args.n 64 (omega arith))
