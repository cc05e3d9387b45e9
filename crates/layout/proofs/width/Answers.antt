-- The leading zeros are the bits that n - 1 does not have.
use Rattle.std.proofs.Common.{arith}
use lib.Count.{leading_le}
use Rattle.meaning.proofs.Laws.Layout.{width_leading}
use Rattle.layout.proofs.width.Goals as goal

pub overflow_sub-result : goal.overflow_sub-result
overflow_sub-result c = leading_le 64 _

pub returns : goal.returns
returns c = rw c.saturating_sub.ensures (width_leading 64 c.args.n (omega arith))
