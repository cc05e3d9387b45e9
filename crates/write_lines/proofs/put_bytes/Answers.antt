-- One byte more.
use native.Mathlib.Numerals.{add-one}
use lib.Seq.{take-suc}
use Rattle.write_lines.specs.Put.{put_put}
use Rattle.write_lines.proofs.put_bytes.Goals as goal

pub loop-b-preserved : goal.loop-b-preserved
loop-b-preserved c = let h = c.loop-b-test.true in rw (add-one, take-suc c.args.word.now c.loop-b.b-index 0 h) (put_put c.loop-b.invariant c.put-p.ensures)
