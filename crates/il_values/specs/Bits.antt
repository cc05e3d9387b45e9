-- Words and their bits.
use Rattle.std.specs.Prelude.{◌≡◌, ℕ, zero, suc, ◌+◌, ◌*◌, ◌/◌, ◌%◌, ◌^◌, ◌-◌, ◌≤◌, ◌<◌, max, Bool, true, false, cond, List, [], ◌∷◌, length, get_or, set, eqb}
use Rattle.std.proofs.Common.{sym, ◌∙◌, div-one, inl, inr, arith, pow_pos, shr-shr, eqb-true, eq-eqb, lt-ltb}
use Rattle.std.proofs.Math.Nat.{pow-succ', div-eq_of_lt, max-zero}
use Rattle.std.specs.Int.Bits.{bit_or, or_step, or_zero_r}
use Rattle.meaning.proofs.Laws.Bits.{even}
use Rattle.meaning.specs.Machine.{word_of}
use Rattle.slices.specs.Numbers.{with_number}
use Rattle.slices.specs.NumbersLaws.{number_within}
use Rattle.il_values.specs.Value.{bit_on, with_bit}

-- bit k + 1 is bit k of the half
pub bit_suc : (w k : ℕ) → bit_on w (suc k) ≡ bit_on (w / 2) k
unfolding bit_on
bit_suc w k =
    let e : suc k ≡ 1 + k = omega arith in
    rw (e, ← shr-shr w 1 k)

-- a word has no bits past its size
pub bit_far : (w k : ℕ) → w < 2 ^ k → bit_on w k ≡ false
unfolding bit_on
bit_far w k h = rw (div-eq_of_lt h)

-- a bit that is on is in the word
pub bit_low : (k w : ℕ) → bit_on w k ≡ true → 2 ^ k ≤ w
unfolding bit_on
bit_low zero w e = let h : w / 1 % 2 ≡ 1 = eqb-true (w / 2 ^ 0 % 2) 1 e in omega arith
bit_low (suc k) w e = let h = bit_low k (w / 2) (sym (bit_suc w k) ∙ e) in omega (arith, pow-succ' 2 k)

-- the bits of a word are those that it was made of
pub word_bit : (bs : List Bool) (k : ℕ) → bit_on (word_of bs) k ≡ get_or bs k false
unfolding word_of bit_on
word_bit [] k = bit_far 0 k (pow_pos k)
word_bit (true ∷ bs) zero = let e : (1 + 2 * word_of bs) / 1 % 2 ≡ 1 = omega arith in eq-eqb _ 1 e
word_bit (false ∷ bs) zero = let e : (0 + 2 * word_of bs) / 1 % 2 ≡ 0 = omega arith in rw e
word_bit (true ∷ bs) (suc k) = let e : (1 + 2 * word_of bs) / 2 ≡ word_of bs = omega arith in bit_suc (1 + 2 * word_of bs) k ∙ rw e (word_bit bs k)
word_bit (false ∷ bs) (suc k) = let e : (0 + 2 * word_of bs) / 2 ≡ word_of bs = omega arith in bit_suc (0 + 2 * word_of bs) k ∙ rw e (word_bit bs k)

lift : (b v g : Bool) (p m n q : ℕ) → q ≡ 2 * p → m + cond g p 0 ≡ n + cond v p 0 → (cond b 1 0 + 2 * m) + cond g q 0 ≡ (cond b 1 0 + 2 * n) + cond v q 0
lift b true true p m n q e f = omega arith
lift b true false p m n q e f = omega arith
lift b false true p m n q e f = omega arith
lift b false false p m n q e f = omega arith

set_weighs : (bs : List Bool) (k : ℕ) (v : Bool) → k < length bs → word_of (set bs k v) + cond (get_or bs k false) (2 ^ k) 0 ≡ word_of bs + cond v (2 ^ k) 0
unfolding word_of
set_weighs [] k v h = absurd (omega arith)
set_weighs (true ∷ bs) zero true h = omega arith
set_weighs (true ∷ bs) zero false h = omega arith
set_weighs (false ∷ bs) zero true h = omega arith
set_weighs (false ∷ bs) zero false h = omega arith
set_weighs (b ∷ bs) (suc k) v h = lift b v (get_or bs k false) (2 ^ k) (word_of (set bs k v)) (word_of bs) (2 ^ suc k) (pow-succ' 2 k) (set_weighs bs k v (omega arith))

-- a bit changed in a word is a bit changed in what it was made of
pub word_set : (bs : List Bool) (k : ℕ) (v : Bool) → k < length bs → length bs ≤ 64 → with_bit (word_of bs) k v ≡ word_of (set bs k v)
unfolding with_bit
word_set bs k v h g =
    let e = set_weighs bs k v h in
    rw (lt-ltb k 64 (omega arith), word_bit bs k) (omega arith)

-- ---- a number put into a word

heavier : (b : Bool) (o p w q : ℕ) → q ≡ 2 * p → o + cond b p 0 ≡ w / 2 + p → (o * 2 + w % 2) + cond b q 0 ≡ w + q
heavier true o p w q e f = omega arith
heavier false o p w q e f = omega arith

bit_zero : (w : ℕ) → bit_on w 0 ≡ eqb (w % 2) 1
unfolding bit_on
bit_zero w = let e : w / 2 ^ 0 ≡ w = div-one w in rw e

-- a word with a bit that it did not have weighs that bit more
pub or_weighs : (k w : ℕ) → bit_or w (2 ^ k) + cond (bit_on w k) (2 ^ k) 0 ≡ w + 2 ^ k
or_weighs zero w =
    let s : bit_or w 1 ≡ w / 2 * 2 + max (w % 2) 1 = or_step w 1 ∙ rw (or_zero_r (w / 2)) in
    elim (even w) [ inl e ↦ rw (s, bit_zero w, e) (omega arith) | inr e ↦ rw (s, bit_zero w, e) (omega arith) ]
or_weighs (suc k) w =
    let p = pow-succ' 2 k in
    let h : 2 ^ suc k / 2 ≡ 2 ^ k = omega (arith, p) in
    let z : 2 ^ suc k % 2 ≡ 0 = omega (arith, p) in
    rw (bit_suc w k, or_step w (2 ^ suc k), h, z, max-zero (w % 2)) (heavier (bit_on (w / 2) k) (bit_or (w / 2) (2 ^ k)) (2 ^ k) w (2 ^ suc k) p (or_weighs k (w / 2)))

-- number k + 1 put into a word is its bit k put on
pub number_on : (w k : ℕ) → k < 64 → with_number w (k + 1) ≡ with_bit w k true
unfolding with_bit
number_on w k h =
    let e : k + 1 - 1 ≡ k = omega arith in
    number_within w (k + 1) (omega arith) (omega arith) ∙ rw (e, lt-ltb k 64 h) (let z = or_weighs k w in omega (arith, z))
