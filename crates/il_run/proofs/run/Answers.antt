-- One scan more, and that no input word is left in the end.
use Rattle.std.proofs.Common.{refl, arith}
use Rattle.il_run.specs.RowLaws.{run_turn, run_end}
use Rattle.il_run.proofs.run.Goals as goal

pub loop-n-preserved : goal.loop-n-preserved
loop-n-preserved c = run_turn (omega arith) refl c.scan-w.ensures c.put.ensures c.loop-n.invariant

pub returns : goal.returns
returns c = (run_end c.loop-n.invariant (omega arith), refl)
