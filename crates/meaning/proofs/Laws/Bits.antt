-- The bits of a number, one after the other: what they leave no choice about, and those of what `|` and `&` make.
use Rattle.std.specs.Prelude.{◌≡◌, ◌⊎◌, false, not, ◌&&◌, ◌||◌, eqb}
use Rattle.std.proofs.Common.{sym, ap, ap₂, ◌∙◌, inl, inr, div-one, one-mul, mod-eq_of_lt, shr-shr, eqb-true, eq-eqb, ne_eqb}
use Prim.Native.Nat.{ℕ, zero, suc, ◌+◌, ◌*◌, ◌-◌, ◌/◌, ◌%◌, ◌^◌, ◌≤◌, ◌<◌, min, max}
use native.Mathlib.Omega.{arith}
use Rattle.std.proofs.Math.Decide.{ℕ_discrete}
use Rattle.std.proofs.Math.Nat.{pow-succ', div-eq_of_lt}
use Rattle.std.specs.Int.Bits.{bit_or, bit_and, or_step, and_step}
use Rattle.std.proofs.lemmas.Nat.{or_shr, and_shr}
use Rattle.std.proofs.Math.Pow.{pow-lt, pow_pos}
use Rattle.std.proofs.lemmas.Bool.{eqb-false}
use Rattle.meaning.specs.Literals.{input_on}
use Rattle.meaning.proofs.Laws.Rows.{which}

-- ---- digits

pub even : (w : ℕ) → (w % 2 ≡ 0) ⊎ (w % 2 ≡ 1)
even w = elim (ℕ_discrete (w % 2) 0) [ yes e ↦ inl e | no e ↦ inr (omega arith) ]

same_digit : (w v : ℕ) → eqb (w % 2) 1 ≡ eqb (v % 2) 1 → w % 2 ≡ v % 2
same_digit w v e = elim (which (eqb (v % 2) 1)) [
  | inl f ↦ eqb-true (w % 2) 1 (e ∙ f) ∙ sym (eqb-true (v % 2) 1 f)
  | inr f ↦ (let a = eqb-false (w % 2) 1 (e ∙ f) in let b = eqb-false (v % 2) 1 f in omega (arith, a, b))
]

-- the last digit of two numbers' or
or_digit : (p x y : ℕ) → x < 2 → y < 2 → eqb ((p * 2 + max x y) % 2) 1 ≡ (eqb x 1 || eqb y 1)
or_digit p zero zero h k = ap (λ z. eqb z 1) (let z : (p * 2 + 0) % 2 ≡ 0 = omega arith in z)
or_digit p zero (suc zero) h k = ap (λ z. eqb z 1) (let z : (p * 2 + 1) % 2 ≡ 1 = omega arith in z)
or_digit p (suc zero) zero h k = ap (λ z. eqb z 1) (let z : (p * 2 + 1) % 2 ≡ 1 = omega arith in z)
or_digit p (suc zero) (suc zero) h k = ap (λ z. eqb z 1) (let z : (p * 2 + 1) % 2 ≡ 1 = omega arith in z)
or_digit p (suc (suc x)) y h k = absurd (omega arith)
or_digit p zero (suc (suc y)) h k = absurd (omega arith)
or_digit p (suc zero) (suc (suc y)) h k = absurd (omega arith)

-- and of their and
and_digit : (p x y : ℕ) → x < 2 → y < 2 → eqb ((p * 2 + min x y) % 2) 1 ≡ (eqb x 1 && eqb y 1)
and_digit p zero zero h k = ap (λ z. eqb z 1) (let z : (p * 2 + 0) % 2 ≡ 0 = omega arith in z)
and_digit p zero (suc zero) h k = ap (λ z. eqb z 1) (let z : (p * 2 + 0) % 2 ≡ 0 = omega arith in z)
and_digit p (suc zero) zero h k = ap (λ z. eqb z 1) (let z : (p * 2 + 0) % 2 ≡ 0 = omega arith in z)
and_digit p (suc zero) (suc zero) h k = ap (λ z. eqb z 1) (let z : (p * 2 + 1) % 2 ≡ 1 = omega arith in z)
and_digit p (suc (suc x)) y h k = absurd (omega arith)
and_digit p zero (suc (suc y)) h k = absurd (omega arith)
and_digit p (suc zero) (suc (suc y)) h k = absurd (omega arith)

-- ---- bits, from 1

-- the first bit, and the others of a number are those of its half
pub low_bit : (w : ℕ) → input_on w 1 ≡ eqb (w % 2) 1
unfolding input_on
low_bit w = let e : w / 2 ^ (1 - 1) ≡ w = div-one w in rw e

pub half_bit : (w k : ℕ) → input_on w (suc (suc k)) ≡ input_on (w / 2) (suc k)
unfolding input_on
half_bit w k =
    let p : suc (suc k) - 1 ≡ 1 + k = omega arith in
    let q : suc k - 1 ≡ k = omega arith in
    rw (p, q, ← shr-shr w 1 k)

-- numbers of k bits that have the same bits are the same
pub same_bits : (k w v : ℕ) → w < 2 ^ k → v < 2 ^ k → ((n : ℕ) → n < k → input_on w (suc n) ≡ input_on v (suc n)) → w ≡ v
same_bits zero w v h g f = omega arith
same_bits (suc k) w v h g f =
    let p = pow-succ' 2 k in
    let r = same_bits k (w / 2) (v / 2) (omega (arith, p)) (omega (arith, p)) (λ n z. sym (half_bit w n) ∙ f (suc n) (omega arith) ∙ half_bit v n) in
    let s = same_digit w v (sym (low_bit w) ∙ f 0 (omega arith) ∙ low_bit v) in
    omega (arith, r, s)

pub no_bit : (n : ℕ) → input_on 0 n ≡ false
unfolding input_on
no_bit n = rw (div-eq_of_lt (pow_pos (n - 1)))

pub or_bit : (a b n : ℕ) → input_on (bit_or a b) n ≡ (input_on a n || input_on b n)
unfolding input_on
or_bit a b n =
    ap (λ w. eqb (w % 2) 1) (or_shr a b (n - 1) ∙ or_step (a / 2 ^ (n - 1)) (b / 2 ^ (n - 1)))
    ∙ or_digit (bit_or (a / 2 ^ (n - 1) / 2) (b / 2 ^ (n - 1) / 2)) (a / 2 ^ (n - 1) % 2) (b / 2 ^ (n - 1) % 2) (omega arith) (omega arith)

pub and_bit : (a b n : ℕ) → input_on (bit_and a b) n ≡ (input_on a n && input_on b n)
unfolding input_on
and_bit a b n =
    ap (λ w. eqb (w % 2) 1) (and_shr a b (n - 1) ∙ and_step (a / 2 ^ (n - 1)) (b / 2 ^ (n - 1)))
    ∙ and_digit (bit_and (a / 2 ^ (n - 1) / 2) (b / 2 ^ (n - 1) / 2)) (a / 2 ^ (n - 1) % 2) (b / 2 ^ (n - 1) % 2) (omega arith) (omega arith)

-- numbers that count from 0, and the same from 1
pub eqb_suc : (k n : ℕ) → eqb k n ≡ eqb (suc k) (suc n)
eqb_suc k n = elim (ℕ_discrete k n) [
  | yes e ↦ eq-eqb k n e ∙ sym (eq-eqb (suc k) (suc n) (ap suc e))
  | no d ↦ ne_eqb k n d ∙ sym (ne_eqb (suc k) (suc n) (λ e. d (omega arith)))
]

-- the bit of weight 2 ^ k alone
pub one_bit : (k n : ℕ) → input_on (2 ^ k) (suc n) ≡ eqb k n
one_bit zero zero = low_bit 1
one_bit zero (suc n) = unfold input_on in (let p : suc (suc n) - 1 ≡ suc n = omega arith in rw (p, div-eq_of_lt (let z = pow_pos n in let y : 1 < 2 ^ suc n = omega (arith, pow-succ' 2 n) in y)) (sym (ne_eqb 0 (suc n) (λ e. omega arith))))
one_bit (suc k) zero = low_bit (2 ^ suc k) ∙ (let z : 2 ^ suc k % 2 ≡ 0 = omega (arith, pow-succ' 2 k) in rw z (sym (ne_eqb (suc k) 0 (λ e. omega arith))))
one_bit (suc k) (suc n) = half_bit (2 ^ suc k) n ∙ (let z : 2 ^ suc k / 2 ≡ 2 ^ k = omega (arith, pow-succ' 2 k) in rw z (one_bit k n ∙ eqb_suc k n))

-- all bits the other way round
pub other_bit : (n w k : ℕ) → w < 2 ^ n → k < n → input_on (2 ^ n - 1 - w) (suc k) ≡ not (input_on w (suc k))
other_bit zero w k h i = absurd (omega arith)
other_bit (suc n) w zero h i = low_bit (2 ^ suc n - 1 - w) ∙ (let p = pow-succ' 2 n in elim (even w) [
  | inl e ↦ (let z : (2 ^ suc n - 1 - w) % 2 ≡ 1 = omega (arith, p, pow_pos n) in rw (z, low_bit w, e))
  | inr e ↦ (let z : (2 ^ suc n - 1 - w) % 2 ≡ 0 = omega (arith, p, pow_pos n) in rw (z, low_bit w, e))
])
other_bit (suc n) w (suc k) h i =
    let p = pow-succ' 2 n in
    let z : (2 ^ suc n - 1 - w) / 2 ≡ 2 ^ n - 1 - w / 2 = omega (arith, p, pow_pos n) in
    half_bit (2 ^ suc n - 1 - w) k ∙ rw (z, half_bit w k) (other_bit n (w / 2) k (omega (arith, p)) (omega arith))

-- a one shifted below the width
pub weight : (k : ℕ) → k < 64 → 1 * 2 ^ k % 18446744073709551616 ≡ 2 ^ k
weight k h = rw (one-mul (2 ^ k)) (mod-eq_of_lt (pow-lt h))

-- a word with number n too
pub number_bit : (w n m : ℕ) → 1 ≤ n → 1 ≤ m → input_on (bit_or w (2 ^ (n - 1))) m ≡ (input_on w m || eqb n m)
number_bit w n m h g =
    let p : n ≡ suc (n - 1) = omega arith in
    let q : m ≡ suc (m - 1) = omega arith in
    or_bit w (2 ^ (n - 1)) m
    ∙ ap (λ b. input_on w m || b) (ap (input_on (2 ^ (n - 1))) q ∙ one_bit (n - 1) (m - 1) ∙ eqb_suc (n - 1) (m - 1) ∙ ap₂ eqb (sym p) (sym q))
