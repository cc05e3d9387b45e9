-- A signed number that is not below 0.
use Rattle.std.specs.Prelude.{◌≡◌, false, T, ℤ, pos, negsuc}
use Rattle.std.proofs.Common.{subst}
use Rattle.std.specs.Int.Signed.{lt_z, non_neg}

pub not_neg : (v : ℤ) → lt_z v (pos 0) ≡ false → T (non_neg v)
not_neg (pos n) q = tt
not_neg (negsuc n) q = subst T q tt
