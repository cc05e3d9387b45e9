-- What a verdict after LITERAL says of the checks before it.
use Rattle.meaning.specs.Refusals.{Verdict}
use Rattle.std.specs.Prelude.{◌≡◌, refl, ◌⊎◌, ◌≢◌, ℕ, ◌≤◌, ◌<◌, Ok, Err}
use Rattle.std.proofs.Common.{sym, ap, ◌∙◌, inl, inr, arith}
use mathlib.Core.List.{List, zip_with}
use Rattle.std.proofs.lemmas.Nat.{or_lt}
use Rattle.std.proofs.Math.Decide.{dec_le}
use Rattle.meaning.specs.Rows.{least}
use Rattle.meaning.proofs.Laws.Rows.{least_before, not_both}
use Rattle.meaning.specs.Refusals.{number_of, place_of}
use Rattle.meaning.specs.Tables.{Tables, state_count, move_count, source}
use Rattle.check_idle.specs.Leaves.{source_known}
use Rattle.meaning.specs.Rules.{SizeRule, HierarchyRule, OverlapRule}
use Rattle.meaning.specs.Check.{checks, verdict, overlaps, earlier}
use Rattle.meaning.proofs.Laws.Rules.{literal_tells}
use Rattle.meaning.proofs.Laws.Overlap.{overlaps_tells}
use Rattle.meaning.proofs.Laws.Verdict.{GivenBy, ruled, refused_exactly, accepted_exactly}
use Rattle.meaning.specs.declared.Refusal.{Refusal}
use Rattle.meaning.specs.declared.Refusal.TheVariants as R
use Rattle.check_literals.specs.Places.{LiteralsPass}
use Rattle.meaning.specs.Check as K
use Rattle.meaning.specs.Needs.{needs_on, needs_off, both_on, both_off}
use Rattle.check_needs.specs.declared.ThingWords.{ThingWords}
use Rattle.check_needs.specs.declared.Needs.{Needs}
use Rattle.check_needs.specs.Words.{InWords, union_words, needs_at, WordsAt}
use Rattle.check_needs.specs.WordsLaws.{Small, union_words_lem}
use Rattle.check_witness.specs.declared.Witness.{Witness}
use Rattle.check_witness.specs.Shown.{InSixtyFour, no_witness, OverlapFound, Witnessed}

-- SIZE, HIERARCHY, MOVE and LITERAL have passed
pub record Passed (c : Tables) : Type 0 where
  pub size : SizeRule c
  pub hierarchy : (s : ℕ) → s < state_count c → HierarchyRule c s
  pub sources : (i : ℕ) → i < move_count c → source c i < state_count c
  pub literals : LiteralsPass c

pub accepted_passed : (c : Tables) → verdict c ≡ (Ok tt) → Passed c
accepted_passed c e = let r = (accepted_exactly c).0 e in record { size = r.size; hierarchy = r.hierarchy; sources = λ i h. source_known c i (r.moves i h); literals = λ i h. (literal_tells c i).1 (r.literals i h) }

later : {A B C : Type 0} → A ⊎ (B × C) → (A → ⊥) → B × C
later (inl a) n = absurd (n a)
later (inr p) n = p

-- a refusal that is numbered after LITERAL
pub refused_passed : (c : Tables) (r : Refusal) → verdict c ≡ Err r → 9 ≤ number_of r → Passed c
unfolding GivenBy ruled checks zip_with
refused_passed c r e h =
    let size = later ((refused_exactly c r).0 e) (λ b. omega (arith, ap number_of b.gives)) in
    let hierarchy = later size.1 (λ b. omega (arith, ap number_of b.gives)) in
    let initial = later hierarchy.1 (λ b. omega (arith, ap number_of b.gives)) in
    let preset = later initial.1 (λ b. omega (arith, ap number_of b.gives)) in
    let timer = later preset.1 (λ b. omega (arith, ap number_of b.gives)) in
    let output = later timer.1 (λ b. omega (arith, ap number_of b.gives)) in
    let moved = later output.1 (λ b. omega (arith, ap number_of b.gives)) in
    let literal = later moved.1 (λ b. omega (arith, ap number_of b.gives)) in
    record { size = size.0 0 (omega arith); hierarchy = hierarchy.0; sources = λ i z. source_known c i (moved.0 i z); literals = λ i z. (literal_tells c i).1 (literal.0 i z) }

-- ---- OVERLAP

-- the refusal of number 10 is an OVERLAP
pub is_overlap : (r : Refusal) → number_of r ≡ 10 → r ≡ R.Overlap (place_of r)
is_overlap R.Size e = absurd (omega (arith, e))
is_overlap (R.Hierarchy p) e = absurd (omega (arith, e))
is_overlap (R.Initial p) e = absurd (omega (arith, e))
is_overlap (R.Preset p) e = absurd (omega (arith, e))
is_overlap (R.TimerPair p) e = absurd (omega (arith, e))
is_overlap (R.OutputPair p) e = absurd (omega (arith, e))
is_overlap (R.Move p) e = absurd (omega (arith, e))
is_overlap (R.Literal p) e = absurd (omega (arith, e))
is_overlap (R.IdleTimer p) e = absurd (omega (arith, e))
is_overlap (R.Overlap p) e = refl
is_overlap R.FlipFlops e = absurd (omega (arith, e))
is_overlap (R.Room p) e = absurd (omega (arith, e))
is_overlap (R.Text p) e = absurd (omega (arith, e))
is_overlap R.State e = absurd (omega (arith, e))
is_overlap R.Scans e = absurd (omega (arith, e))
is_overlap (R.Field p) e = absurd (omega (arith, e))

-- its place is a move, and an earlier move overlaps that
pub record OverlapKnown (c : Tables) (i : ℕ) : Type 0 where
  pub passed : Passed c
  pub known : i < move_count c
  pub some : earlier c i < i

-- the check that gives it is the tenth
overlap_broken : (c : Tables) (i : ℕ) → verdict c ≡ Err (R.Overlap i) → (i < move_count c) × (OverlapRule c i → ⊥)
unfolding GivenBy ruled checks zip_with
overlap_broken c i e =
    let size = later ((refused_exactly c (R.Overlap i)).0 e) (λ b. omega (arith, ap number_of b.gives)) in
    let hierarchy = later size.1 (λ b. omega (arith, ap number_of b.gives)) in
    let initial = later hierarchy.1 (λ b. omega (arith, ap number_of b.gives)) in
    let preset = later initial.1 (λ b. omega (arith, ap number_of b.gives)) in
    let timer = later preset.1 (λ b. omega (arith, ap number_of b.gives)) in
    let output = later timer.1 (λ b. omega (arith, ap number_of b.gives)) in
    let moved = later output.1 (λ b. omega (arith, ap number_of b.gives)) in
    let literal = later moved.1 (λ b. omega (arith, ap number_of b.gives)) in
    let idle = later literal.1 (λ b. omega (arith, ap number_of b.gives)) in
    elim idle.1 [
      | inl b ↦ (let z : b.row ≡ i = sym (ap place_of b.gives) in (rw z at b.known, rw z at b.broken))
      | inr p ↦ elim p.1 [ inl b ↦ absurd (omega (arith, ap number_of b.gives)) | inr q ↦ absurd q.1 ]
    ]

pub overlap_known : (c : Tables) (i : ℕ) → verdict c ≡ Err (R.Overlap i) → OverlapKnown c i
unfolding earlier
overlap_known c i e =
    let p = refused_passed c (R.Overlap i) e (omega arith) in
    let b = overlap_broken c i e in
    record { passed = p; known = b.0; some = found p b.0 b.1 }
  where
    found : Passed c → i < move_count c → (OverlapRule c i → ⊥) → earlier c i < i
    found p h n = elim (dec_le i (least (overlaps c i) 0 i)) [
      | no g ↦ omega arith
      | yes g ↦ absurd (n (record { apart = λ j z o. not_both (least_before (overlaps c i) 0 i j (omega arith) (omega arith)) ((overlaps_tells c i j (p.literals i h) (p.literals j (omega arith))).1 o) }))
    ]

-- ---- the sets of a pair

module _ (c : Tables) (l : List ℕ) (i j : ℕ) (a b : Needs) (p : a ≡ needs_at l j) (q : b ≡ needs_at l i) (e : j ≡ K.earlier c i)
    (A : WordsAt c (K.earlier c i) l) (B : WordsAt c i l) where
  pub both_on_lem : (on : ThingWords) → on ≡ union_words a.on b.on → InWords on (both_on c (K.earlier c i) i)
  both_on_lem on r = rw (r, p, q, e) (union_words_lem _ _ (needs_on c (K.earlier c i)) (needs_on c i) A.on B.on)

  pub both_off_lem : (off : ThingWords) → off ≡ union_words a.off b.off → InWords off (both_off c (K.earlier c i) i)
  both_off_lem off r = rw (r, p, q, e) (union_words_lem _ _ (needs_off c (K.earlier c i)) (needs_off c i) A.off B.off)

-- of words of 64 bits
pub union_small : (a b r : ThingWords) → Small a → Small b → r ≡ union_words a b → InSixtyFour r
union_small a b r p q e = rw e (record { inputs = or_lt 64 a.inputs b.inputs p.inputs q.inputs; timers = or_lt 64 a.timers b.timers p.timers q.timers })

-- ---- what is shown, by the refusal

pub found_witnessed : (c : Tables) (r : Refusal) (w : Witness) → number_of r ≡ 10 → verdict c ≡ Err r → OverlapFound c (place_of r) w → Witnessed c w
found_witnessed c r w n e f =
    let z : verdict c ≡ Err (R.Overlap (place_of r)) = e ∙ ap Err (is_overlap r n) in
    record {
      answer = f.answer ∙ sym z;
      overlap = λ i d. (let y : place_of r ≡ i = ap placed (sym z ∙ d) in rw y at f.shown);
      other = λ h. absurd (h (place_of r) z);
    }
  where
    placed : Verdict → ℕ
    placed (Ok tt) = 0
    placed (Err q) = place_of q

pub other_witnessed : (c : Tables) (v : Verdict) (w : Witness) → verdict c ≡ v → ((i : ℕ) → v ≢ Err (R.Overlap i)) → w ≡ no_witness v → Witnessed c w
other_witnessed c v w e n f = record {
  answer = rw (f, e);
  overlap = λ i d. absurd (n i (sym e ∙ d));
  other = λ h. rw (f, e);
}

-- a refusal with another number is no OVERLAP, nor is acceptance
pub no_overlap : (r : Refusal) → number_of r ≢ 10 → (i : ℕ) → ◌≢◌ {A = Verdict} (Err r) (Err (R.Overlap i))
no_overlap r n i e = n (ap numbered e)
  where
    numbered : Verdict → ℕ
    numbered (Ok tt) = 0
    numbered (Err q) = number_of q

pub accepted_no_overlap : (i : ℕ) → ◌≢◌ {A = Verdict} (Ok tt) (Err (R.Overlap i))
accepted_no_overlap i e = omega (arith, ap numbered e)
  where
    numbered : Verdict → ℕ
    numbered (Ok tt) = 0
    numbered (Err q) = 1
