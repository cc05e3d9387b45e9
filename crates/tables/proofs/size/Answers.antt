use Rattle.tables.specs.Signs.{not_neg}
use mir.Facts.{to_z-of_z, Fits-nat_abs}
use mir.Val.{SFits, to_z, of_z}
use mir.Syntax.{w16}
use lib.Signed.{lt_z, non_neg}
use lib.IntN.{ℤ, pos, negsuc, nat_abs, ◌-ℤ◌}
use lib.Dec.{T}
use Prim.Native.Nat.{ℕ, suc, ◌<◌, ◌≤◌}
use native.Mathlib.Nat.{zero-add}
use native.Mathlib.Omega.{arith}
use borrow.Author.Tests.{ltb-true, ltb-false}
use mathlib.Core.Path.{◌≡◌, sym, ap, ◌∙◌}
use mathlib.Core.Bool.{true, false}
use Rattle.tables.proofs.size.Goals as goal

-- the least number is the only one below -32,767
low : (k : ℕ) → 32766 ≤ k → (v : ℤ) → SFits w16 v → lt_z v (negsuc k) ≡ true → 32768 ≡ nat_abs v
low k h (pos n) f p = let z : true ≡ false = sym p in cc
low k h (negsuc n) f p =
    let s : n < 32768 = f.sfits in
    let g : k < n = ltb-true k n p in omega arith

-- a negative number above it: its opposite fits, is no negative number, and is its size
opposite_fits : (k : ℕ) → k ≤ 32766 → (v : ℤ) → lt_z v (negsuc k) ≡ false → lt_z v (pos 0) ≡ true → SFits w16 (pos 0 -ℤ v)
opposite_fits k h (pos n) p q = absurd (omega (arith, ltb-true n 0 q))
opposite_fits k h (negsuc n) p q = record { sfits = omega (arith, ltb-false k n p) }

opposite_pos : (v : ℤ) → lt_z v (pos 0) ≡ true → T (non_neg (pos 0 -ℤ v))
opposite_pos (pos n) q = absurd (omega (arith, ltb-true n 0 q))
opposite_pos (negsuc n) q = tt

opposite_size : (v : ℤ) → lt_z v (pos 0) ≡ true → nat_abs (pos 0 -ℤ v) ≡ nat_abs v
opposite_size (pos n) q = absurd (omega (arith, ltb-true n 0 q))
opposite_size (negsuc n) q = zero-add (suc n)

pub returns-then-v-lt-LEAST_OPPOSED : goal.returns-then-v-lt-LEAST_OPPOSED
returns-then-v-lt-LEAST_OPPOSED c =
    let f = c.ranges.v in low _ (omega arith) c.args.v f (rw (to_z-of_z f) at c.if-v-lt-LEAST_OPPOSED.true)

pub overflow_sub-result : goal.overflow_sub-result
overflow_sub-result c =
    let u = to_z w16 (of_z w16 c.args.v) in opposite_fits _ (omega arith) u c.if-v-lt-LEAST_OPPOSED.false c.if-v-lt0.true

pub overflow_cast-result : goal.overflow_cast-result
overflow_cast-result c =
    let u = to_z w16 (of_z w16 c.args.v) in
    let f = opposite_fits _ (omega arith) u c.if-v-lt-LEAST_OPPOSED.false c.if-v-lt0.true in
    rw (to_z-of_z f) (opposite_pos u c.if-v-lt0.true, Fits-nat_abs tt f)

pub returns-then-v-lt0 : goal.returns-then-v-lt0
returns-then-v-lt0 c =
    let v = c.args.v in
    let u = to_z w16 (of_z w16 v) in
    let f = to_z-of_z c.ranges.v in
    ap nat_abs (to_z-of_z {w = w16} (opposite_fits _ (omega arith) u c.if-v-lt-LEAST_OPPOSED.false c.if-v-lt0.true))
    ∙ opposite_size u c.if-v-lt0.true ∙ ap nat_abs f

pub overflow_cast-result-2 : goal.overflow_cast-result-2
overflow_cast-result-2 c =
    let f = c.ranges.v in
    rw (to_z-of_z f) (not_neg c.args.v (rw (to_z-of_z f) at c.if-v-lt0.false), Fits-nat_abs tt f)

pub returns : goal.returns
returns c = ap nat_abs (to_z-of_z c.ranges.v)
