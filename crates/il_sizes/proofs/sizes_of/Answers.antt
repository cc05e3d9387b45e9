-- What the pass over the words promises is what the call tells.
use Rattle.std.proofs.Math.Path.{refl}
use Rattle.il_sizes.specs.Told.{SizesTold, sizes_told}
use Rattle.il_sizes.proofs.sizes_of.Goals as goal

pub returns-in-Ok : goal.returns-in-Ok
returns-in-Ok c = sizes_told c.in-Ok.ensures c.flip_flop_bytes.ensures

pub returns-in-Err : goal.returns-in-Err
returns-in-Err c = SizesTold.refused _ c.in-Err.ensures refl
