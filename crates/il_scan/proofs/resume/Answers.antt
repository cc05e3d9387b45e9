-- The block's Q in the word of the Qs, and no CAL due.
use Rattle.il_scan.specs.Run.{resumed}
use Rattle.il_scan.proofs.resume.Goals as goal

pub returns : goal.returns
unfolding resumed
returns c = rw (c.ended.ensures, c.with_bit.ensures)
