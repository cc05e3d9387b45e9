-- The digits of a number, one by one, and the number that digits spell.
use Rattle.std.specs.Prelude.{◌≡◌, refl, ℕ, zero, suc, ◌+◌, ◌*◌, ◌-◌, ◌/◌, ◌%◌, ◌^◌, ◌≤◌, ◌<◌, Bool, true, false, List, [], ◌∷◌, ◌++◌, length, get_or, ltb, eqb}
use Rattle.std.proofs.Common.{sym, ap, ◌∙◌, inl, inr, pow-suc, arith, true≢false, append-nil, append_assoc, length-append, ne_eqb, le-leb, lt-ltb, le-ltb, ltb-true, ltb-false}
use Rattle.std.proofs.Math.Decide.{dec_le}
use Rattle.meaning.proofs.Laws.Rows.{which, and_both}
use Rattle.meaning.specs.Literals.{between}
use Rattle.meaning.specs.Programs.{all}
use Rattle.meaning.proofs.Laws.Tests.{all_append}
use Rattle.format.specs.Text.{digits, decimal}
use Rattle.format.proofs.Laws.Decode.{in_range}
use Rattle.format.specs.Automata.Lines.{leading}

abbrev pub digit : ℕ → Bool
digit b = between 48 57 b

-- more than twenty digits hold
abbrev pub huge : ℕ
huge = 100000000000000000000

-- ---- digit by digit

-- below ten there is one, however many there may be
one_below : (k n : ℕ) → n < 10 → digits (suc k) n ≡ (48 + n % 10) ∷ []
unfolding digits
one_below k n h = ap (λ (b : Bool). elim b [ true ↦ [] | false ↦ digits k (n / 10) ] ++ ((48 + n % 10) ∷ [])) (lt-ltb n 10 h)

-- a number that k + 1 digits hold has no more
one_more : (k n : ℕ) → n < 10 ^ suc k → digits k n ≡ digits (suc k) n
unfolding digits
one_more zero n h = sym (one_below 0 n h)
one_more (suc k) n h = elim (dec_le 10 n) [
  | yes g ↦ rw (digits, le-ltb n 10 g) (ap (λ d. d ++ ((48 + n % 10) ∷ [])) (one_more k (n / 10) (omega (arith, pow-suc 10 (suc k)))))
  | no g ↦ rw (digits, lt-ltb n 10 (omega arith))
]

pub decimal_small : (n : ℕ) → n < 10 → decimal n ≡ (48 + n) ∷ []
unfolding decimal digits
decimal_small n h = let e : n % 10 ≡ n = omega arith in rw (lt-ltb n 10 h, digits, e)

digits_few : (k n : ℕ) → length (digits k n) ≤ suc k
unfolding digits
digits_few zero n = omega arith
digits_few (suc k) n = elim (which (ltb n 10)) [
  | inl e ↦ rw (digits, e) (omega arith)
  | inr e ↦ rw (digits, e) (omega (arith, length-append (digits k (n / 10)) ((48 + n % 10) ∷ []), digits_few k (n / 10)))
]

pub decimal_few : (n : ℕ) → length (decimal n) ≤ 20
unfolding decimal
decimal_few n = digits_few 19 n

-- the last digit
pub decimal_last : (n : ℕ) → 10 ≤ n → n < huge → decimal n ≡ decimal (n / 10) ++ ((48 + n % 10) ∷ [])
unfolding decimal digits
decimal_last n h f = rw (le-ltb n 10 h, digits) (ap (λ d. d ++ ((48 + n % 10) ∷ [])) (one_more 18 (n / 10) (omega arith)))

-- one digit more on the right
pub decimal_more : (n d : ℕ) → 1 ≤ n → d < 10 → 10 * n + d < huge → decimal (10 * n + d) ≡ decimal n ++ ((48 + d) ∷ [])
decimal_more n d a b h =
    let e : (10 * n + d) / 10 ≡ n = omega arith in
    let f : (10 * n + d) % 10 ≡ d = omega arith in
    rw (e, f) at (decimal_last (10 * n + d) (omega arith) h)

one_digit : (n : ℕ) → all digit ((48 + n % 10) ∷ []) ≡ true
unfolding all
one_digit n = and_both _ true (in_range 48 57 (48 + n % 10) (omega arith) (omega arith)) refl

all_digits : (k n : ℕ) → all digit (digits k n) ≡ true
unfolding digits
all_digits zero n = one_digit n
all_digits (suc k) n = elim (which (ltb n 10)) [
  | inl e ↦ rw e (one_digit n)
  | inr e ↦ rw (e, all_append digit (digits k (n / 10)) ((48 + n % 10) ∷ [])) (and_both _ _ (all_digits k (n / 10)) (one_digit n))
]

pub decimal_digits : (n : ℕ) → all digit (decimal n) ≡ true
unfolding decimal
decimal_digits n = all_digits 19 n

-- ---- the first digit

first_digit : (k n : ℕ) (r : List ℕ) → (c : ℕ) × (c < 10) × (get_or (digits k n ++ r) 0 0 ≡ 48 + c)
unfolding digits
first_digit zero n r = (n % 10, omega arith, refl)
first_digit (suc k) n r = elim (which (ltb n 10)) [
  | inl e ↦ rw (digits, e) (n % 10, omega arith, refl)
  | inr e ↦ rw (digits, e) (rw append_assoc (first_digit k (n / 10) ((48 + n % 10) ∷ r)))
]

-- a decimal begins with no other byte
pub begins_digit : (n x : ℕ) (r : List ℕ) → digit x ≡ false → eqb (get_or (decimal n ++ r) 0 0) x ≡ false
unfolding decimal
begins_digit n x r h =
    let f = first_digit 19 n r in
    ne_eqb (get_or (digits 19 n ++ r) 0 0) x (λ e. true≢false (sym (in_range 48 57 x (omega (arith, e, f.2)) (omega (arith, e, f.1, f.2))) ∙ h))

first_zero : (k m : ℕ) (r : List ℕ) → m < 10 ^ suc k → get_or (digits k m ++ r) 0 0 ≡ 48 → m ≡ 0
unfolding digits
first_zero zero m r h e = omega arith
first_zero (suc k) m r h e = elim (which (ltb m 10)) [
  | inl f ↦ (let g : 48 + m % 10 ≡ 48 = rw (digits, f) at e in omega (arith, ltb-true m 10 f))
  | inr f ↦ (let g : get_or (digits k (m / 10) ++ ((48 + m % 10) ∷ r)) 0 0 ≡ 48 = rw append_assoc at (rw (digits, f) at e) in
      absurd (omega (arith, first_zero k (m / 10) ((48 + m % 10) ∷ r) (omega (arith, pow-suc 10 (suc k))) g, ltb-false m 10 f)))
]

-- "Numbers have no leading zero."
pub no_leading_zero : (m : ℕ) → m < huge → get_or (decimal m) 0 0 ≡ 48 → m ≡ 0
unfolding decimal
no_leading_zero m h e = first_zero 19 m [] (omega arith) (ap (λ l. get_or l 0 0) (append-nil (digits 19 m)) ∙ e)

-- ---- the number that digits spell

pub leading_yes : (n b : ℕ) (r : List ℕ) → 48 ≤ b → b ≤ 57 → leading n (b ∷ r) ≡ leading (10 * n + (b - 48)) r
unfolding leading
leading_yes n b r h k = rw (leading, le-leb 48 b h, le-leb b 57 k)

leading_digit : (a c : ℕ) (r : List ℕ) → c < 10 → leading a ((48 + c) ∷ r) ≡ leading (10 * a + c) r
leading_digit a c r h = let f : 48 + c - 48 ≡ c = omega arith in leading_yes a (48 + c) r (omega arith) (omega arith) ∙ ap (λ x. leading (10 * a + x) r) f

leading_digits : (k n : ℕ) (r : List ℕ) → n < 10 ^ suc k → leading 0 (digits k n ++ r) ≡ leading n r
unfolding digits
leading_digits zero n r h = leading_digit 0 (n % 10) r (omega arith) ∙ ap (λ x. leading x r) (omega arith)
leading_digits (suc k) n r h = elim (which (ltb n 10)) [
  | inl e ↦ rw (digits, e) (leading_digit 0 (n % 10) r (omega arith) ∙ ap (λ x. leading x r) (omega (arith, ltb-true n 10 e)))
  | inr e ↦ rw (digits, e) (rw append_assoc (leading_digits k (n / 10) ((48 + n % 10) ∷ r) (omega (arith, pow-suc 10 (suc k))) ∙ leading_digit (n / 10) (n % 10) r (omega arith) ∙ ap (λ x. leading x r) (omega arith)))
]

pub leading_decimal : (n : ℕ) (r : List ℕ) → n < 2 ^ 64 → leading 0 (decimal n ++ r) ≡ leading n r
unfolding decimal
leading_decimal n r h = leading_digits 19 n r (omega arith)

pub leading_all : (n : ℕ) → n < 2 ^ 64 → (leading 0 (decimal n)).number ≡ n
unfolding leading
leading_all n h = ap (λ l. (leading 0 l).number) (sym (append-nil (decimal n))) ∙ ap (λ s. s.number) (leading_decimal n [] h)
