-- A field, byte after byte: the phase after its last byte tells whether its content is a decimal of its type, and which.
use Rattle.std.specs.Prelude.{◌≡◌, ◌⊎◌, Bool, ◌&&◌, cond, length, get_or, take, drop, leb, eqb, ℤ, pos, negsuc, neg_ℤ, Some, None, Option}
use Rattle.std.proofs.Math.Path.{refl, ap}
use Rattle.std.proofs.Common.{sym, ◌∙◌}
use Rattle.std.proofs.Math.Logic.{inl, inr}
use Prim.Native.Nat.{ℕ, zero, suc, ◌+◌, ◌*◌, ◌-◌, ◌≤◌, ◌<◌}
use native.Mathlib.Omega.{arith}
use Rattle.std.proofs.Math.Decide.{ℕ_discrete, dec_le}
use Rattle.std.proofs.Math.Bool.{true, false}
use mathlib.Core.List.{List, [], ◌∷◌}
use borrow.Author.Tests.{le-leb, lt-leb, leb-true, eq-eqb, ne_eqb}
use Rattle.meaning.specs.Literals.{between}
use Rattle.meaning.proofs.Laws.Rows.{which, and_l, and_r}
use Rattle.format.specs.Text.{decimal}
use Rattle.format.specs.Records.{same, spelt, decimal_within, negative, field_value, content}
use Rattle.format.proofs.Laws.Decimals.{huge, digit}
use Rattle.csv_field.specs.declared.FieldPhase.{FieldPhase}
use Rattle.csv_field.specs.declared.FieldPhase.TheVariants.{Fresh, Empty, Quote, Minus, Number, Closed, Return, Bad}
use Rattle.csv_field.specs.Field.{most64, digit_added, field_begun, number_after, phase_after}
use Rattle.csv_value.specs.Decimals.{encoded, decimal_of}
use Rattle.csv_field.specs.FieldLaws.{grown_low, grown_high, grown_past, grown_digit}
use Rattle.csv_records.specs.Decimals.{goes_on, goes_end, goes_digit, goes_other, goes_past, goes_zero, goes_low, within_none, within_other, within_digit, within_past}

-- a stored number: a negative one as its 64-bit two's complement
unfoldable pub stored_number : ℤ → ℕ
stored_number (pos n) = n
stored_number (negsuc n) = most64 - n

-- a field without quotes, of a type with numbers from -below to most
unfoldable pub fits_in : ℕ → ℕ → List ℕ → Bool
fits_in most below f = cond (negative f) (decimal_within 1 below (drop 1 f)) (decimal_within 0 most f)

unfoldable pub told : ℕ → ℕ → List ℕ → (Option ℕ)
told most below f = cond (fits_in most below f) (Some (stored_number (field_value f))) None

unfoldable pub phase_all : ℕ → ℕ → FieldPhase → List ℕ → FieldPhase
phase_all most below p [] = p
phase_all most below p (b ∷ f) = phase_all most below (phase_after most below p b) f

-- ---- what stands between quotes

-- the last byte is a quote
unfoldable pub closes : List ℕ → Bool
closes [] = false
closes (b ∷ []) = eqb b 34
closes (b ∷ d ∷ g) = closes (d ∷ g)

-- all but the last byte
unfoldable pub but_last : List ℕ → List ℕ
but_last [] = []
but_last (b ∷ []) = []
but_last (b ∷ d ∷ g) = b ∷ but_last (d ∷ g)

last_closes : (b : ℕ) (g : List ℕ) → eqb (get_or (b ∷ g) (length g) 0) 34 ≡ closes (b ∷ g)
unfolding closes
last_closes b [] = refl
last_closes b (d ∷ g) = last_closes d g

take_last : (b : ℕ) (g : List ℕ) → take (length g) (b ∷ g) ≡ but_last (b ∷ g)
unfolding but_last
take_last b [] = refl
take_last b (d ∷ g) = ap (λ (l : List ℕ). b ∷ l) (take_last d g)

pub content_quoted : (g : List ℕ) → content (34 ∷ g) ≡ cond (closes g) (but_last g) (34 ∷ g)
unfolding content closes
content_quoted [] = refl
content_quoted (b ∷ g) =
    let e : suc (suc (length g)) - 1 ≡ suc (length g) = omega arith in
    let f : suc (suc (length g)) - 2 ≡ length g = omega arith in
    rw (le-leb 2 (suc (suc (length g))) (omega arith), e, f, last_closes b g, take_last b g)

pub content_bare : (f : List ℕ) → (get_or f 0 0 ≡ 34 → ⊥) → content f ≡ f
unfolding content
content_bare f h = elim (which (leb 2 (length f))) [ inl e ↦ rw (e, ne_eqb (get_or f 0 0) 34 h) | inr e ↦ rw e ]

-- the phases of a field without quotes, after its first byte, and the same within quotes
data Bare : FieldPhase → Type 0 where
  minus : Bare (Minus false)
  number : (s : Bool) (n : ℕ) → Bare (Number false s n)
  dead : Bare Bad

unfoldable quoted : FieldPhase → FieldPhase
quoted Fresh = Quote
quoted Empty = Quote
quoted Quote = Bad
quoted (Minus q) = Minus true
quoted (Number q s n) = Number true s n
quoted (Closed s n) = Bad
quoted Return = Bad
quoted Bad = Bad

abbrev Both : FieldPhase → FieldPhase → Type 0
Both p q = (q ≡ quoted p) × Bare p

both_grown : (limit : ℕ) (s : Bool) (n b : ℕ) → Both (digit_added limit false s n b) (digit_added limit true s n b)
unfolding digit_added quoted
both_grown limit s n b = elim (which (between 48 57 b && leb (10 * n + (b - 48)) limit)) [
  | inl e ↦ rw e (refl, number s (10 * n + (b - 48)))
  | inr e ↦ rw e (refl, dead)
]

module _ (most below : ℕ) (small : most ≤ most64) (little : below ≤ most64) where
  abbrev after : FieldPhase → List ℕ → (Option ℕ)
  after p f = decimal_of (phase_all most below p f)

  pub bad_after : (f : List ℕ) → after Bad f ≡ None
  unfolding phase_all phase_after decimal_of
  bad_after [] = refl
  bad_after (b ∷ f) = bad_after f

  -- ---- digits

  abbrev limit_of : Bool → ℕ
  limit_of s = cond s below most

  limit_small : (s : Bool) → limit_of s < huge
  limit_small true = omega arith
  limit_small false = omega arith

  -- after a digit, a byte that keeps the number within its type, or not
  grown_cases : (s : Bool) (n b : ℕ)
      → ((48 ≤ b) × (b ≤ 57) × (10 * n + (b - 48) ≤ limit_of s))
      ⊎ ((digit b ≡ false) × ((q : Bool) → digit_added (limit_of s) q s n b ≡ Bad))
      ⊎ ((48 ≤ b) × (b ≤ 57) × (limit_of s < 10 * n + (b - 48)) × ((q : Bool) → digit_added (limit_of s) q s n b ≡ Bad))
  grown_cases s n b = elim (dec_le 48 b) [
    | no h ↦ inr (inl (rw (lt-leb 48 b (omega arith)), λ q. grown_low (limit_of s) q s n b (omega arith)))
    | yes h ↦ elim (dec_le b 57) [
      | no g ↦ inr (inl (rw (le-leb 48 b h, lt-leb b 57 (omega arith)), λ q. grown_high (limit_of s) q s n b (omega arith)))
      | yes g ↦ elim (dec_le (10 * n + (b - 48)) (limit_of s)) [
        | yes i ↦ inl (h, g, i)
        | no i ↦ inr (inr (h, g, omega arith, λ q. grown_past (limit_of s) q s n b h g (omega arith)))
      ]
    ]
  ]

  -- a number that is not 0 goes on
  number_after_lem : (s : Bool) (low : ℕ) → low ≤ 1 → (g : List ℕ) (n : ℕ) → 1 ≤ n → n ≤ limit_of s
      → after (Number false s n) g ≡ cond (goes_on low (limit_of s) n g) (Some (encoded s (spelt n g))) None
  unfolding phase_all phase_after number_after decimal_of spelt
  number_after_lem s low l [] n a h = rw (goes_end low (limit_of s) (limit_small s) n (omega arith) h)
  number_after_lem s low l (b ∷ g) n a h = elim (ℕ_discrete b 34) [
    | yes y ↦ rw (eq-eqb b 34 y, bad_after g, goes_other low (limit_of s) (limit_small s) n b g (rw (lt-leb 48 b (omega arith))))
    | no y ↦ rw (ne_eqb b 34 y, ne_eqb n 0 (λ e. omega arith)) (elim (grown_cases s n b) [
      | inl c ↦ rw (grown_digit (limit_of s) false s n b c.0 c.1 c.2, goes_digit low (limit_of s) (limit_small s) n b g a c.0 c.1 c.2)
          (number_after_lem s low l g (10 * n + (b - 48)) (omega arith) c.2)
      | inr (inl c) ↦ rw (c.1 false, bad_after g, goes_other low (limit_of s) (limit_small s) n b g c.0)
      | inr (inr c) ↦ rw (c.3 false, bad_after g, goes_past low (limit_of s) (limit_small s) n b g c.2)
    ])
  ]

  -- the first digit, if it is no 0
  first_after : (s : Bool) (low : ℕ) → low ≤ 1 → (b : ℕ) (g : List ℕ) → (b ≡ 48 → ⊥)
      → after (digit_added (limit_of s) false s 0 b) g ≡ cond (decimal_within low (limit_of s) (b ∷ g)) (Some (encoded s (spelt 0 (b ∷ g)))) None
  unfolding spelt
  first_after s low l b g z = elim (grown_cases s 0 b) [
    | inl c ↦ (let e : 10 * 0 + (b - 48) ≡ b - 48 = omega arith in
        rw (grown_digit (limit_of s) false s 0 b c.0 c.1 c.2, e, within_digit low (limit_of s) (limit_small s) b g c.0 c.1)
        (number_after_lem s low l g (b - 48) (omega (arith, c.0, z)) (omega (arith, c.2))))
    | inr (inl c) ↦ rw (c.1 false, bad_after g, within_other low (limit_of s) (limit_small s) b g c.0)
    | inr (inr c) ↦ rw (c.3 false, bad_after g, within_past low (limit_of s) (limit_small s) b g (omega (arith, c.2)))
  ]

  zero_within : (g : List ℕ) → decimal_within 0 most (48 ∷ g) ≡ goes_on 0 most 0 g
  zero_within g = within_digit 0 most (limit_small false) 48 g (omega arith) (omega arith)

  -- "0", and nothing after it
  zero_after : (g : List ℕ) → after (Number false false 0) g ≡ cond (decimal_within 0 most (48 ∷ g)) (Some (spelt 0 (48 ∷ g))) None
  unfolding phase_all phase_after number_after decimal_of spelt
  zero_after [] = rw (zero_within [], goes_end 0 most (limit_small false) 0 (omega arith) (omega arith))
  zero_after (d ∷ g) = rw (zero_within (d ∷ g), goes_zero 0 most (limit_small false) d g) (elim (which (eqb d 34)) [ inl e ↦ rw e (bad_after g) | inr e ↦ rw e (bad_after g) ])

  -- "no .. -0"
  minus_zero : (g : List ℕ) → decimal_within 1 below (48 ∷ g) ≡ false
  minus_zero [] = within_digit 1 below (limit_small true) 48 [] (omega arith) (omega arith) ∙ goes_low 1 below (limit_small true) 0 (omega arith)
  minus_zero (d ∷ g) = within_digit 1 below (limit_small true) 48 (d ∷ g) (omega arith) (omega arith) ∙ goes_zero 1 below (limit_small true) d g

  plain_after : (b : ℕ) (g : List ℕ) → after (digit_added most false false 0 b) g ≡ cond (decimal_within 0 most (b ∷ g)) (Some (spelt 0 (b ∷ g))) None
  plain_after b g = elim (ℕ_discrete b 48) [
    | yes y ↦ rw (y, grown_digit most false false 0 48 (omega arith) (omega arith) (omega arith)) (zero_after g)
    | no y ↦ first_after false 0 (omega arith) b g y
  ]

  minus_after : (f : List ℕ) → after (Minus false) f ≡ cond (decimal_within 1 below f) (Some (encoded true (spelt 0 f))) None
  unfolding phase_all phase_after decimal_of
  minus_after [] = rw (within_none 1 below (limit_small true))
  minus_after (b ∷ g) = elim (ℕ_discrete b 48) [
    | yes y ↦ rw (y, bad_after g, minus_zero g)
    | no y ↦ rw (ne_eqb b 48 y) (first_after true 1 (omega arith) b g y)
  ]

  stored_negative : (n : ℕ) → 1 ≤ n → stored_number (neg_ℤ (pos n)) ≡ encoded true n
  unfolding stored_number
  stored_negative zero h = absurd (omega arith)
  stored_negative (suc n) h = (let e : suc n - 1 ≡ n = omega arith in rw e)

  within_from : (f : List ℕ) → decimal_within 1 below f ≡ true → 1 ≤ spelt 0 f
  unfolding decimal_within
  within_from f e = leb-true 1 (spelt 0 f) (and_l (leb 1 (spelt 0 f)) (leb (spelt 0 f) below) (and_r (same (decimal (spelt 0 f)) f) (between 1 below (spelt 0 f)) e))

  minus_told : (f : List ℕ) → cond (decimal_within 1 below f) (Some (encoded true (spelt 0 f))) None ≡ cond (decimal_within 1 below f) (Some (stored_number (neg_ℤ (pos (spelt 0 f))))) None
  minus_told f = elim (which (decimal_within 1 below f)) [
    | inl e ↦ rw (e, stored_negative (spelt 0 f) (within_from f e))
    | inr e ↦ rw e
  ]

  -- ---- a field without quotes

  bare_after : (f : List ℕ) → (get_or f 0 0 ≡ 34 → ⊥) → after Empty f ≡ told most below f
  unfolding phase_all phase_after field_begun decimal_of told fits_in negative field_value stored_number
  bare_after [] h = rw (within_none 0 most (limit_small false))
  bare_after (b ∷ f) h = elim (ℕ_discrete b 45) [
    | yes y ↦ rw y (minus_after f ∙ minus_told f)
    | no y ↦ rw (ne_eqb b 34 h, ne_eqb b 45 y) (plain_after b f)
  ]

  -- ---- a quoted field

  both_step : (p : FieldPhase) → Bare p → (b : ℕ) → (b ≡ 34 → ⊥) → Both (phase_after most below p b) (phase_after most below (quoted p) b)
  unfolding phase_after number_after quoted
  both_step _ minus b h = elim (which (eqb b 48)) [ inl e ↦ rw e (refl, dead) | inr e ↦ rw e (both_grown below true 0 b) ]
  both_step _ (number s n) b h = rw (ne_eqb b 34 h) (elim (which (eqb n 0)) [ inl e ↦ rw e (refl, dead) | inr e ↦ rw e (both_grown (limit_of s) s n b) ])
  both_step _ dead b h = (refl, dead)

  both_first : (b : ℕ) → (b ≡ 34 → ⊥) → Both (phase_after most below Empty b) (phase_after most below Quote b)
  unfolding phase_after field_begun quoted
  both_first b h = rw (ne_eqb b 34 h) (elim (which (eqb b 45)) [ inl e ↦ rw e (refl, minus) | inr e ↦ rw e (both_grown most false 0 b) ])

  quoted_open : (p : FieldPhase) → Bare p → decimal_of (quoted p) ≡ None
  unfolding decimal_of quoted
  quoted_open _ minus = refl
  quoted_open _ (number s n) = refl
  quoted_open _ dead = refl

  quoted_close : (p : FieldPhase) → Bare p → decimal_of (phase_after most below (quoted p) 34) ≡ decimal_of p
  unfolding decimal_of quoted phase_after number_after digit_added
  quoted_close _ minus = refl
  quoted_close _ (number s n) = refl
  quoted_close _ dead = refl

  -- a quote in the middle
  quote_within : (p : FieldPhase) → Bare p → phase_after most below p 34 ≡ Bad
  unfolding phase_after number_after digit_added
  quote_within _ minus = refl
  quote_within _ (number s n) = refl
  quote_within _ dead = refl

  close_within : (p : FieldPhase) → Bare p → (d : ℕ) → phase_after most below (phase_after most below (quoted p) 34) d ≡ Bad
  unfolding phase_after number_after digit_added quoted
  close_within _ minus d = refl
  close_within _ (number s n) d = refl
  close_within _ dead d = refl

  never : (t : Bool) → ◌≡◌ {A = Option ℕ} None (cond t None None)
  never true = refl
  never false = refl

  quoted_after : (g : List ℕ) (p : FieldPhase) → Bare p → after (quoted p) g ≡ cond (closes g) (after p (but_last g)) None
  unfolding phase_all closes but_last
  quoted_after [] p h = quoted_open p h
  quoted_after (b ∷ []) p h = elim (ℕ_discrete b 34) [
    | yes y ↦ rw y (quoted_close p h)
    | no y ↦ (let s = both_step p h b y in rw (ne_eqb b 34 y, s.0) (quoted_open (phase_after most below p b) s.1))
  ]
  quoted_after (b ∷ d ∷ g) p h = elim (ℕ_discrete b 34) [
    | yes y ↦ rw (y, close_within p h d, quote_within p h, bad_after g, bad_after (but_last (d ∷ g))) (never (closes (d ∷ g)))
    | no y ↦ (let s = both_step p h b y in rw s.0 (quoted_after (d ∷ g) (phase_after most below p b) s.1))
  ]

  quote_told : (g : List ℕ) → told most below (34 ∷ g) ≡ None
  unfolding told fits_in negative
  quote_told g = rw (within_other 0 most (limit_small false) 34 g refl)

  none_told : told most below [] ≡ None
  unfolding told fits_in negative
  none_told = rw (within_none 0 most (limit_small false))

  closed_told : (t : Bool) (g : List ℕ) → cond t (told most below (but_last g)) None ≡ told most below (cond t (but_last g) (34 ∷ g))
  closed_told true g = refl
  closed_told false g = sym (quote_told g)

  quoted_open_first : decimal_of Quote ≡ None
  unfolding decimal_of
  quoted_open_first = refl

  quote_first : phase_after most below Quote 34 ≡ Bad
  unfolding phase_after digit_added
  quote_first = refl

  quote_after : (g : List ℕ) → after Quote g ≡ cond (closes g) (told most below (but_last g)) None
  unfolding phase_all closes but_last
  quote_after [] = quoted_open_first
  quote_after (b ∷ []) = elim (ℕ_discrete b 34) [
    | yes y ↦ rw (y, none_told, quote_first) (bad_after [])
    | no y ↦ (let s = both_first b y in rw (ne_eqb b 34 y, s.0) (quoted_open (phase_after most below Empty b) s.1))
  ]
  quote_after (b ∷ d ∷ g) = elim (ℕ_discrete b 34) [
    | yes y ↦ rw (y, quote_first, quote_told (but_last (d ∷ g))) (bad_after (d ∷ g) ∙ never (closes (d ∷ g)))
    | no y ↦ (let s = both_first b y in rw (s.0, ← bare_after (b ∷ but_last (d ∷ g)) y) (quoted_after (d ∷ g) (phase_after most below Empty b) s.1))
  ]

  -- ---- any field

  pub field_after : (f : List ℕ) → after Empty f ≡ told most below (content f)
  unfolding phase_all phase_after field_begun
  field_after [] = bare_after [] (λ e. omega arith) ∙ ap (told most below) (sym (content_bare [] (λ e. omega arith)))
  field_after (b ∷ f) = elim (ℕ_discrete b 34) [
    | yes y ↦ rw (y, content_quoted f) (quote_after f ∙ closed_told (closes f) f)
    | no y ↦ bare_after (b ∷ f) y ∙ ap (told most below) (sym (content_bare (b ∷ f) y))
  ]

  pub fresh_after : (f : List ℕ) → after Fresh f ≡ after Empty f
  unfolding phase_all phase_after decimal_of
  fresh_after [] = refl
  fresh_after (b ∷ f) = refl
