-- Number i + 1 is the bit of weight 2^i.
use Rattle.std.proofs.Common.{rules}
use Rattle.meaning.specs.Literals.{input_on}
use Rattle.chart_paths.proofs.bit_at.Goals as goal

pub returns : goal.returns
unfolding input_on
returns c = search rules
