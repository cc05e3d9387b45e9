-- After n scans the rest of them leads to the run's end.
use Rattle.il_run.specs.RowLaws.{RanOn}
use Rattle.il_run.proofs.run.Given as goal

abbrev pub invariant-loop-n : goal.invariant-loop-n
invariant-loop-n l = RanOn l.step l.words l.inputs l.initial.flip_flops l.initial.blocks l.initial.results l.n l.results l.flip_flops l.blocks
