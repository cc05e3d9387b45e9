-- Laws of `decimal_within`: a decimal is read digit by digit from the left.
use Rattle.std.specs.Prelude.{◌≡◌, Bool, true, false, ◌&&◌, get_or, leb}
use Rattle.std.proofs.Math.Path.{refl, ap}
use Rattle.std.proofs.Common.{sym, ◌∙◌}
use Prim.Native.Nat.{ℕ, suc, ◌+◌, ◌*◌, ◌-◌, ◌≤◌, ◌<◌}
use native.Mathlib.Omega.{arith}
use Rattle.std.proofs.Math.Bool.{true≢false}
use mathlib.Core.List.{List, [], ◌∷◌, ◌++◌, append_assoc, append-nil}
use Rattle.std.proofs.Math.ListN.{length}
use borrow.Author.Tests.{le-leb, leb-true}
use Rattle.meaning.specs.Programs.{all}
use Rattle.meaning.specs.Literals.{between}
use Rattle.meaning.proofs.Laws.Rows.{and_l, and_r, and_both, false_by}
use Rattle.meaning.proofs.Laws.Tests.{all_append}
use Rattle.format.specs.Text.{digits, decimal}
use Rattle.format.specs.Records.{same, spelt, decimal_within}
use Rattle.format.proofs.Laws.Decimals.{digit, huge, decimal_small, decimal_more, decimal_digits, no_leading_zero}
use Rattle.format.proofs.Laws.Lines.{same_yes, same_refl}
use Rattle.format.proofs.Laws.Unique.{tail_same}

-- no number but 0 begins with 0
decimal_zero : (n : ℕ) (g : List ℕ) → n < huge → decimal n ≡ 48 ∷ g → g ≡ []
decimal_zero n g h e = tail_same (sym e ∙ ap decimal (no_leading_zero n h (ap (λ l. get_or l 0 0) e)) ∙ decimal_small 0 (omega arith))

-- ---- what is spelt

pub spelt_grows : (n : ℕ) (g : List ℕ) → n ≤ spelt n g
unfolding spelt
spelt_grows n [] = omega arith
spelt_grows n (b ∷ g) = omega (arith, spelt_grows (10 * n + (b - 48)) g)

-- ---- a number that has been read, and what is still to come

-- n has been read, g is to come
unfoldable pub goes_on : ℕ → ℕ → ℕ → List ℕ → Bool
goes_on low high n g = same (decimal (spelt n g)) (decimal n ++ g) && between low high (spelt n g)

-- the byte after some that are spelt is a digit
spelt_digit : (a g : List ℕ) (n b : ℕ) → same (decimal n) (a ++ (b ∷ g)) ≡ true → digit b ≡ true
unfolding all
spelt_digit a g n b e =
    let p : decimal n ≡ a ++ (b ∷ g) = same_yes (decimal n) (a ++ (b ∷ g)) e in
    let q : (all digit a && all digit (b ∷ g)) ≡ true = sym (all_append digit a (b ∷ g)) ∙ (ap (all digit) (sym p) ∙ decimal_digits n) in
    and_l (digit b) (all digit g) (and_r (all digit a) (all digit (b ∷ g)) q)

module _ (low high : ℕ) (small : high < huge) where
  pub goes_end : (n : ℕ) → low ≤ n → n ≤ high → goes_on low high n [] ≡ true
  unfolding goes_on spelt
  goes_end n a b = rw (append-nil (decimal n)) (and_both _ _ (same_refl (decimal n)) (and_both _ _ (le-leb low n a) (le-leb n high b)))

  pub goes_digit : (n b : ℕ) (g : List ℕ) → 1 ≤ n → 48 ≤ b → b ≤ 57 → 10 * n + (b - 48) ≤ high → goes_on low high n (b ∷ g) ≡ goes_on low high (10 * n + (b - 48)) g
  unfolding goes_on spelt
  goes_digit n b g a h i j =
      let e : 48 + (b - 48) ≡ b = omega arith in
      rw (decimal_more n (b - 48) a (omega arith) (omega arith), e, append_assoc (decimal n) (b ∷ []) g)

  pub goes_other : (n b : ℕ) (g : List ℕ) → digit b ≡ false → goes_on low high n (b ∷ g) ≡ false
  unfolding goes_on
  goes_other n b g e = false_by _ (λ t. true≢false (sym (spelt_digit (decimal n) g (spelt n (b ∷ g)) b (and_l _ _ t)) ∙ e))

  pub goes_past : (n b : ℕ) (g : List ℕ) → high < 10 * n + (b - 48) → goes_on low high n (b ∷ g) ≡ false
  unfolding goes_on spelt
  goes_past n b g h = false_by _ (λ t. let z = leb-true _ high (and_r (leb low (spelt n (b ∷ g))) (leb (spelt n (b ∷ g)) high) (and_r (same (decimal (spelt n (b ∷ g))) (decimal n ++ (b ∷ g))) _ t)) in absurd (omega (arith, spelt_grows (10 * n + (b - 48)) g)))

  -- the first byte of a decimal
  pub within_none : decimal_within low high [] ≡ false
  unfolding decimal_within spelt same decimal digits
  within_none = refl

  pub within_other : (b : ℕ) (g : List ℕ) → digit b ≡ false → decimal_within low high (b ∷ g) ≡ false
  unfolding decimal_within
  within_other b g e = false_by _ (λ t. true≢false (sym (spelt_digit [] g (spelt 0 (b ∷ g)) b (and_l _ _ t)) ∙ e))

  pub within_digit : (b : ℕ) (g : List ℕ) → 48 ≤ b → b ≤ 57 → decimal_within low high (b ∷ g) ≡ goes_on low high (b - 48) g
  unfolding decimal_within goes_on spelt
  within_digit b g h i =
      let e : 48 + (b - 48) ≡ b = omega arith in
      let f : 10 * 0 + (b - 48) ≡ b - 48 = omega arith in
      rw (f, decimal_small (b - 48) (omega arith), e)

  pub within_past : (b : ℕ) (g : List ℕ) → high < b - 48 → decimal_within low high (b ∷ g) ≡ false
  unfolding decimal_within spelt
  within_past b g h = false_by _ (λ t. let z = leb-true _ high (and_r (leb low (spelt 0 (b ∷ g))) (leb (spelt 0 (b ∷ g)) high) (and_r (same (decimal (spelt 0 (b ∷ g))) (b ∷ g)) _ t)) in absurd (omega (arith, spelt_grows (10 * 0 + (b - 48)) g)))

  -- nothing follows a leading 0
  pub goes_zero : (d : ℕ) (g : List ℕ) → goes_on low high 0 (d ∷ g) ≡ false
  unfolding goes_on
  goes_zero d g = false_by _ (λ t.
      let z : spelt 0 (d ∷ g) ≤ high = leb-true _ high (and_r (leb low (spelt 0 (d ∷ g))) (leb (spelt 0 (d ∷ g)) high) (and_r (same (decimal (spelt 0 (d ∷ g))) (decimal 0 ++ (d ∷ g))) _ t)) in
      let e : decimal (spelt 0 (d ∷ g)) ≡ decimal 0 ++ (d ∷ g) = same_yes _ _ (and_l _ _ t) in
      let f : d ∷ g ≡ [] = decimal_zero (spelt 0 (d ∷ g)) (d ∷ g) (omega arith) (rw (decimal_small 0 (omega arith)) at e) in
      let k : suc (length g) ≡ 0 = ap length f in
      absurd (omega arith))

  pub goes_low : (n : ℕ) → n < low → goes_on low high n [] ≡ false
  unfolding goes_on spelt
  goes_low n h = false_by _ (λ t. let z = leb-true low n (and_l (leb low n) (leb n high) (and_r (same (decimal n) (decimal n ++ [])) _ t)) in absurd (omega arith))
