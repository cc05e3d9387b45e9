-- Reading a decimal byte by byte: what is known in front of each byte, and why there may be no decimal.
use Rattle.std.specs.Prelude.{◌≡◌, refl, ◌≢◌, ℕ, suc, ◌+◌, ◌*◌, ◌-◌, ◌≤◌, ◌<◌, false, length, get_or, take, drop}
use Rattle.std.proofs.Math.Path.{sym, ap}
use Rattle.std.proofs.Common.{ap₂, ◌∙◌, inl, inr, arith, drop_of_length-le, take-suc, drop-cons, length-take-le, get_or-take}
use Rattle.std.proofs.Math.Decide.{dec_le}
use mathlib.Core.List.{List, [], ◌∷◌, ◌++◌, append-nil}
use Rattle.meaning.proofs.Laws.Rows.{which}
use Rattle.meaning.specs.Literals.{between}
use Rattle.format.specs.Text.{decimal}
use Rattle.format.specs.Automata.Lines.{leading}
use Rattle.format.proofs.Laws.Decode.{within}
use Rattle.format.proofs.Laws.Decimals.{decimal_small, decimal_more, no_leading_zero, leading_yes, leading_decimal}

-- the first i bytes of l are a decimal of n, where i is not 0
pub record Spelling (l : List ℕ) (i n : ℕ) : Type 0 where
  pub within : i ≤ length l
  pub value : leading 0 l ≡ leading n (drop i l)
  pub start : i ≡ 0 → n ≡ 0
  pub front : 0 < i → decimal n ≡ take i l

pub spelling_none : (l : List ℕ) → Spelling l 0 0
spelling_none l = record { within = omega arith; value = refl; start = λ e. refl; front = λ h. absurd (omega arith) }

leading_no : (n b : ℕ) (r : List ℕ) → between 48 57 b ≡ false → leading n (b ∷ r) ≡ record { number = n; rest = b ∷ r }
unfolding leading
leading_no n b r e = rw (leading, e)

not_between : (b : ℕ) → (48 ≤ b → b ≤ 57 → ⊥) → between 48 57 b ≡ false
not_between b f = elim (which (between 48 57 b)) [ inl e ↦ (let w = within 48 57 b e in absurd (f w.0 w.1)) | inr e ↦ e ]

-- what follows only adds to the number
leading_grows : (r : List ℕ) (n : ℕ) → n ≤ (leading n r).number
unfolding leading
leading_grows [] n = omega arith
leading_grows (b ∷ r) n = elim (which (between 48 57 b)) [
  | inl e ↦ rw (leading, e) (omega (arith, leading_grows r (10 * n + (b - 48))))
  | inr e ↦ rw (leading, e) (omega arith)
]

module _ {l : List ℕ} {i n : ℕ} (s : Spelling l i n) where
  -- what a decimal of m would be
  spelt : (m : ℕ) → m ≤ 4294967295 → decimal m ≡ l → leading n (drop i l) ≡ record { number = m; rest = [] }
  unfolding leading
  spelt m h e = sym s.value ∙ ap (leading 0) (sym e ∙ sym (append-nil (decimal m))) ∙ leading_decimal m [] (omega arith)

  pub spelt_all : length l ≤ i → (m : ℕ) → m ≤ 4294967295 → decimal m ≡ l → m ≡ n
  unfolding leading
  spelt_all k m h e = sym (ap (λ x. x.number) (ap (leading n) (sym (drop_of_length-le l k)) ∙ spelt m h e))

  -- the number is beyond already
  pub too_large : (m : ℕ) → m ≤ 4294967295 → m < n → decimal m ≡ l → ⊥
  too_large m h k e = omega (arith, leading_grows (drop i l) n, ap (λ x. x.number) (spelt m h e))

  -- no byte at all
  pub no_bytes : length l ≤ i → i ≡ 0 → (m : ℕ) → m ≤ 4294967295 → decimal m ≡ l → ⊥
  no_bytes k z m h e =
      let f : m ≡ 0 = spelt_all k m h e ∙ s.start z in
      omega (arith, ap length (sym (ap decimal f ∙ decimal_small 0 (omega arith)) ∙ e))

  module _ (h : i < length l) where
    pub spelling_more : 48 ≤ get_or l i 0 → get_or l i 0 ≤ 57 → (0 < i → 1 ≤ n) → n ≤ 4294967295 → Spelling l (suc i) (10 * n + (get_or l i 0 - 48))
    spelling_more p q z k = record {
      within = h;
      value = s.value ∙ ap (leading n) (drop-cons l i 0 h) ∙ leading_yes n (get_or l i 0) (drop (suc i) l) p q;
      start = λ e. absurd (omega arith);
      front = λ f. elim (dec_le 1 i) [
        | yes g ↦ decimal_more n (get_or l i 0 - 48) (z g) (omega arith) (omega arith) ∙ ap₂ (λ x y. x ++ (y ∷ [])) (s.front g) back ∙ sym (take-suc l i 0 h)
        | no g ↦ (let y : i ≡ 0 = omega arith in
            let w : 10 * n + (get_or l i 0 - 48) ≡ get_or l i 0 - 48 = omega (arith, s.start y) in
            ap decimal w ∙ decimal_small (get_or l i 0 - 48) (omega arith) ∙ ap (λ x. x ∷ []) back ∙ sym (take-suc l i 0 h ∙ ap (λ j. take j l ++ (get_or l i 0 ∷ [])) y))
      ];
    }
      where
        back : 48 + (get_or l i 0 - 48) ≡ get_or l i 0
        back = omega arith

    -- a byte that is no digit
    pub no_digit : (48 ≤ get_or l i 0 → get_or l i 0 ≤ 57 → ⊥) → (m : ℕ) → m ≤ 4294967295 → decimal m ≡ l → ⊥
    no_digit b m k e = omega (arith, ap (λ x. length x.rest) (sym (ap (leading n) (drop-cons l i 0 h) ∙ leading_no n (get_or l i 0) (drop (suc i) l) (not_between _ b)) ∙ spelt m k e))

    -- a digit behind a zero
    pub no_zero : 0 < i → n ≡ 0 → (m : ℕ) → m ≤ 4294967295 → decimal m ≡ l → ⊥
    no_zero p z m k e =
        let d : take i l ≡ 48 ∷ [] = sym (s.front p) ∙ ap decimal z ∙ decimal_small 0 (omega arith) in
        let f : get_or (decimal m) 0 0 ≡ 48 = ap (λ x. get_or x 0 0) e ∙ sym (get_or-take i l 0 0 p) ∙ ap (λ x. get_or x 0 0) d in
        omega (arith, ap length d, length-take-le i l s.within, ap length (sym (ap decimal (no_leading_zero m (omega arith) f) ∙ decimal_small 0 (omega arith)) ∙ e))

-- "Numbers have no leading zero."
pub zero_first : (l : List ℕ) → 1 < length l → get_or l 0 0 ≡ 48 → (m : ℕ) → m ≤ 4294967295 → decimal m ≡ l → ⊥
zero_first l h z = no_zero (spelling_more (spelling_none l) (omega arith) (omega arith) (omega arith) (λ k. absurd (omega arith)) (omega arith)) h (omega arith) (omega arith)

-- where the first of several digits is not 0, neither is the number
pub digit_more : (l : List ℕ) (i n : ℕ) → (0 < i → 1 < length l → 1 ≤ n) → (1 < length l → get_or l 0 0 ≢ 48) → 48 ≤ get_or l i 0 → 1 < length l → 1 ≤ 10 * n + (get_or l i 0 - 48)
digit_more l i n z k p h = elim (dec_le 1 i) [
  | yes g ↦ omega (arith, z g h)
  | no g ↦ (let y : i ≡ 0 = omega arith in
      let w : get_or l i 0 ≢ 48 = rw y (k h) in omega arith)
]

-- neither no byte at all nor a zero in front of others
pub no_front : (l : List ℕ) → (0 < length l → 1 < length l) → (0 < length l → get_or l 0 0 ≡ 48) → (m : ℕ) → m ≤ 4294967295 → decimal m ≡ l → ⊥
no_front l a b m h e = elim (dec_le 1 (length l)) [
  | yes g ↦ zero_first l (a g) (b g) m h e
  | no g ↦ no_bytes (spelling_none l) (omega arith) (omega arith) m h e
]
