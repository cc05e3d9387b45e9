use borrow.Author.Tests.{le-ltb}
use native.Mathlib.Omega.{arith}
use Rattle.meaning.specs.Literals.{wanted}
use mir.Facts.{to_z-of_z}
use lib.Signed.{lt_z}
use lib.IntN.{ℤ, pos, negsuc}
use mathlib.Core.Path.{◌≡◌, refl}
use mathlib.Core.Bool.{not}
use Rattle.tables.proofs.wanted.Goals as goal

sign : (v : ℤ) → not (lt_z v (pos 0)) ≡ wanted v
unfolding wanted
sign (pos n) = rw (le-ltb n 0 (omega arith))
sign (negsuc n) = refl

pub returns : goal.returns
returns c = rw (to_z-of_z c.ranges.v) (sign c.args.v)
