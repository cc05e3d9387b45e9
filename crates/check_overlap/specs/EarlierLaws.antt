-- A pair of moves by their words and their sources, and the least earlier one that overlaps.
use Rattle.std.specs.Prelude.{◌≡◌, refl, ℕ, suc, ◌/◌, ◌<◌, Bool, true, false, ◌||◌, List, eqb, length, Option, Some, None, is_some, IsSome, not}
use borrow.Author.Tests.{not-true, not-false}
use Rattle.std.proofs.Common.{sym, ◌∙◌, inl, inr, arith, zero-add, eq-eqb, ne_eqb, lt-ltb}
use Rattle.std.proofs.Math.Bool.{and-false}
use Rattle.meaning.specs.Rows.{least, some}
use Rattle.meaning.proofs.Laws.Rows.{which, some_yes, some_no, least_none, least_before, not_both}
use Rattle.meaning.specs.Once.{Words64}
use Rattle.meaning.specs.Tables.{Tables, source}
use Rattle.meaning.specs.Hierarchy.{at_or_above}
use Rattle.meaning.specs.Needs.{clash}
use Rattle.meaning.specs.Check.{overlaps, earlier, overlap_passes}
use Rattle.check_overlap.specs.Told.{EarlierTold}
use Rattle.check_needs.specs.declared.Needs.{Needs}
use Rattle.check_needs.specs.Words.{need_words, needs_at, clash_at, WordsTo}
use Rattle.check_needs.specs.WordsLaws.{small_at, clash_words_lem}

module _ (c : Tables) (i j : ℕ) where
  -- near sources that do not clash overlap, others do not
  module _ (s t : ℕ) (f : s ≡ source c i) (g : t ≡ source c j) {n : Bool} (h : n ≡ (at_or_above c s t || at_or_above c t s)) where
    pub overlap_near : n ≡ true → clash c i j ≡ false → overlaps c i j ≡ true
    unfolding overlaps
    overlap_near p q = rw (← f, ← g, ← h, p, q)

    pub overlap_far : n ≡ false → overlaps c i j ≡ false
    unfolding overlaps
    overlap_far p = rw (← f, ← g, ← h, p)

  pub overlap_clash : clash c i j ≡ true → overlaps c i j ≡ false
  unfolding overlaps
  overlap_clash p = rw p (and-false (at_or_above c (source c i) (source c j) || at_or_above c (source c j) (source c i)))

  -- of the words in a slice
  pub clash_told : (l : List ℕ) → Words64 l → (a : Needs) → a ≡ needs_at l i → i < length l / need_words → WordsTo c (suc i) l → j < i → clash_at l a j ≡ clash c i j
  clash_told l small a e r w h = rw (lt-ltb j (length l / need_words) (omega arith), e)
      (clash_words_lem c i j (needs_at l i) (needs_at l j) (small_at l small i).on (small_at l small j).on (w i (omega arith)) (w j (omega arith)))

-- the check passes exactly where there is none
pub none_earlier : (c : Tables) (i r : ℕ) → r ≡ earlier c i → eqb r i ≡ overlap_passes c i
unfolding earlier overlap_passes
none_earlier c i r e = elim (which (some (overlaps c i) 0 i)) [
  | inl f ↦ (let y = some_yes (overlaps c i) 0 i f in rw f (ne_eqb r i (λ z. missed y.0 (omega (arith, y.2)) y.3 (sym e ∙ z))))
  | inr f ↦ rw f (eq-eqb r i (e ∙ least_none (overlaps c i) 0 i (some_no (overlaps c i) 0 i f) ∙ zero-add i))
]
  where
    missed : (k : ℕ) → k < i → overlaps c i k ≡ true → least (overlaps c i) 0 i ≡ i → ⊥
    missed k h y z = not_both (least_before (overlaps c i) 0 i k (omega arith) (omega (arith, z))) y

pub none_told : (c : Tables) (i : ℕ) (r : Option ℕ) (b : Bool) → EarlierTold c i r → is_some r ≡ not b → b ≡ overlap_passes c i
none_told c i None b e n = not-false b (sym n) ∙ sym (eq-eqb i i refl) ∙ none_earlier c i i (sym e)
none_told c i (Some j) b p n = not-true b (sym n) ∙ sym (ne_eqb j i (λ z. omega (arith, p.0, z))) ∙ none_earlier c i j p.1

-- where there is one it is told
pub some_told : (c : Tables) (i : ℕ) (r : Option ℕ) → EarlierTold c i r → earlier c i < i → IsSome r
some_told c i None e h = absurd (omega (arith, e, h))
some_told c i (Some j) p h = refl
