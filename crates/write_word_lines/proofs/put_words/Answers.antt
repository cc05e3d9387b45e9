-- No line yet, and one line more.
use mathlib.Core.List.{flat_map}
use native.Mathlib.Omega.{arith}
use Rattle.write_lines.specs.Fit.{fit_fit, fit_none}
use Rattle.write_word_lines.specs.ByNumbers.{lines_next}
use Rattle.write_word_lines.proofs.put_words.Goals as goal

pub loop-w-init : goal.loop-w-init
unfolding flat_map
loop-w-init c = fit_none _ _ (omega arith) (omega arith)

pub loop-w-preserved : goal.loop-w-preserved
loop-w-preserved c = rw (lines_next c.args.words.now c.loop-w.w-index c.loop-w-test.true) (fit_fit c.loop-w.invariant c.put_word-p.ensures)
