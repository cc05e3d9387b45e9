-- What `below` says of a number by its sign: no number below 0 is a row, and of others their size decides.
use Rattle.meaning.specs.Check.{below}
use borrow.Author.Tests.{ltb-true}
use lib.Signed.{lt_z}
use lib.IntN.{ℤ, pos, negsuc, nat_abs}
use lib.Dec.{T, ltb}
use native.Mathlib.Omega.{arith}
use mathlib.Core.Bool.{true, false}
use mathlib.Core.Path.{◌≡◌, refl, subst}
use Prim.Native.Nat.{ℕ}

pub below_neg : (n : ℕ) (v : ℤ) → lt_z v (pos 0) ≡ true → false ≡ below n v
unfolding below
below_neg n (pos k) q = absurd (omega (arith, ltb-true k 0 q))
below_neg n (negsuc k) q = refl

pub below_pos : (n : ℕ) (v : ℤ) → lt_z v (pos 0) ≡ false → ltb (nat_abs v) n ≡ below n v
unfolding below
below_pos n (pos k) q = refl
below_pos n (negsuc k) q = absurd (subst T q tt)
