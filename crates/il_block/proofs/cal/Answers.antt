-- The IN and the PT that were stored last are in the block before its call.
use Rattle.il_block.specs.Called.{called_with}
use Rattle.meaning.specs.Scan.{with_pt, with_in}
use Rattle.il_block.proofs.cal.Goals as goal

pub returns : goal.returns
unfolding called_with with_pt with_in
returns c = c.ton.ensures
