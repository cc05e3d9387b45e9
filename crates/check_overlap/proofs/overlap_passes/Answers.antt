-- The check passes exactly where no earlier move overlaps.
use Rattle.tables.specs.Given.{given}
use Rattle.check_overlap.specs.EarlierLaws.{none_told}
use Rattle.check_overlap.proofs.overlap_passes.Goals as goal

pub returns : goal.returns
returns c f h w = none_told (given c.args.t.now) c.args.i c.earlier.result c.is_none.result (c.earlier.ensures f h w) c.is_none.ensures
