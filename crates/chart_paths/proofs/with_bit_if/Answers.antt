-- By the law of a word with one bit more.
use Rattle.std.proofs.Common.{true, arith}
use Rattle.chart_paths.specs.WordsLaws.{with_bit_if}
use Rattle.chart_paths.proofs.with_bit_if.Goals as goal

pub returns-then-b : goal.returns-then-b
returns-then-b c j = let a = c.args in rw (c.if-b.true, c.with_number.ensures) (with_bit_if a.w a.i j true (omega arith))
