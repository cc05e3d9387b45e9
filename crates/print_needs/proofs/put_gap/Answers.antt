-- A space exactly where a name stands before.
use native.Mathlib.Omega.{arith}
use Rattle.write_lines.specs.Put.{put_none}
use Rattle.print_needs.proofs.put_gap.Goals as goal

pub returns-then-p : goal.returns-then-p
returns-then-p c = rw c.if-p.true c.put.ensures

pub returns : goal.returns
returns c = rw c.if-p.false (put_none _ _ (omega arith) (omega arith))
