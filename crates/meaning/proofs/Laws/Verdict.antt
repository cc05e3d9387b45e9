-- The verdict in words: accepted exactly when every rule is kept, and each refusal given exactly when its rule is the first broken, at the least row.
use Rattle.std.specs.Prelude.{◌≡◌, refl, ◌⊎◌, ◌↔◌, ℕ, suc, ◌<◌, Bool, true, false, not, eqb, Ok, Err}
use Rattle.std.proofs.Common.{sym, ap, ◌∙◌, inl, inr, arith, true≢false, eqb-true}
use Rattle.std.proofs.Math.Logic.Iff.{trans}
use Rattle.std.proofs.Math.Decide.{ℕ_discrete, dec_le}
use Rattle.std.proofs.lemmas.Bool.{false≢true, eqb-false, not-true, not-false}
use mathlib.Core.List.{List, [], ◌∷◌, map, zip_with}
use Rattle.meaning.specs.Rows.{least}
use Rattle.meaning.proofs.Laws.Rows.{which, least_to, least_before, least_passes}
use Rattle.meaning.specs.Refusals.{number_of, place_of}
use Rattle.meaning.specs.Tables.{Tables, timer_count}
use Rattle.meaning.specs.Rules.{Rules, SizeRule, HierarchyRule, InitialRule, PresetRule, PairRule, MoveRule, LiteralRule, IdleRule, OverlapRule, FlipFlopRule}
use Rattle.meaning.specs.Check.{Check, first_failing, verdict_of, checks, verdict}
use Rattle.meaning.proofs.Laws.Rules.{size_tells, hierarchy_tells, initial_tells, preset_tells, pair_tells, move_tells, literal_tells, idle_tells, overlap_tells, flip_flop_tells}
use Rattle.meaning.specs.declared.Refusal.{Refusal}

-- a check together with the rule, in words, that its test stands for
pub record RuledCheck : Type 1 where
  pub check : Check
  pub Rule : ℕ → Type 0

-- the rule is kept at every row
abbrev pub Kept : RuledCheck → Type 0
Kept k = (i : ℕ) → i < k.check.rows → k.Rule i

-- the check gives r: its rule is broken at a row, at no earlier one, and r names that row
pub record Broken (k : RuledCheck) (r : Refusal) : Type 0 where
  pub row : ℕ
  pub known : row < k.check.rows
  pub broken : k.Rule row → ⊥
  pub first : (j : ℕ) → j < row → k.Rule j
  pub gives : r ≡ k.check.refusal row

-- r is given by a check of the list, and every check before that one is kept
unfoldable pub GivenBy : List RuledCheck → Refusal → Type 0
GivenBy [] r = ⊥
GivenBy (k ∷ ks) r = Broken k r ⊎ (Kept k × GivenBy ks r)

-- each check of `checks` with its rule, in the order of checking
unfoldable pub ruled : Tables → List RuledCheck
ruled c = zip_with (λ k P. record { check = k; Rule = P }) (checks c)
    ((λ i. SizeRule c)
    ∷ HierarchyRule c
    ∷ InitialRule c
    ∷ PresetRule c
    ∷ PairRule c (timer_count c) c.timer_pairs
    ∷ PairRule c c.outputs c.output_pairs
    ∷ MoveRule c
    ∷ LiteralRule c
    ∷ IdleRule c
    ∷ OverlapRule c
    ∷ (λ i. FlipFlopRule c)
    ∷ [])

-- no check is left out
pub same_checks : (c : Tables) → map (λ k. k.check) (ruled c) ≡ checks c
unfolding ruled checks zip_with
same_checks c = refl

-- ---- one check

-- every row of a check passes
abbrev Passes : Check → Type 0
Passes k = (i : ℕ) → i < k.rows → k.passes i ≡ true

-- at every row the test tells the rule
abbrev TellsRule : RuledCheck → Type 0
TellsRule k = (i : ℕ) → i < k.check.rows → (k.check.passes i ≡ true) ↔ k.Rule i

-- every row passes where the least failing one is past the end
passed : (k : Check) → eqb (first_failing k) k.rows ≡ true → Passes k
unfolding first_failing
passed k e i h = not-false (k.passes i) (least_before (λ j. not (k.passes j)) 0 k.rows i (omega arith) (omega (arith, eqb-true (first_failing k) k.rows e)))

-- the least failing row breaks the rule where it is not past the end
failed : (k : RuledCheck) → TellsRule k → eqb (first_failing k.check) k.check.rows ≡ false → Broken k (k.check.refusal (first_failing k.check))
unfolding first_failing
failed k t e =
    let fails : ℕ → Bool = (λ j. not (k.check.passes j)) in
    let n : ℕ = k.check.rows in
    let h : least fails 0 n < n = omega (arith, least_to fails 0 n, eqb-false (least fails 0 n) n e) in
    record {
      row = least fails 0 n;
      known = h;
      broken = λ x. true≢false (sym ((t (least fails 0 n) h).1 x) ∙ not-true _ (least_passes fails 0 n (omega arith)));
      first = λ j z. (t j (omega arith)).0 (not-false (k.check.passes j) (least_before fails 0 n j (omega arith) z));
      gives = refl;
    }

-- a check gives one refusal
one_refusal : (k : RuledCheck) (r s : Refusal) → Broken k r → Broken k s → r ≡ s
one_refusal k r s a b = elim (ℕ_discrete a.row b.row) [
  | yes e ↦ cc
  | no n ↦ elim (dec_le a.row b.row) [ yes h ↦ absurd (a.broken (b.first a.row (omega arith))) | no h ↦ absurd (b.broken (a.first b.row (omega arith))) ]
]

-- a check that is kept gives none
kept_or_broken : (k : RuledCheck) (r : Refusal) → Kept k → Broken k r → ⊥
kept_or_broken k r h b = b.broken (h b.row b.known)

-- ---- a list of checks

-- at every row each test tells its rule, if all checks before it pass
Tells : List RuledCheck → Type 0
Tells [] = Unit {0}
Tells (k ∷ ks) = TellsRule k × (Passes k.check → Tells ks)

-- the law for refusals, for any list of checks
refused_of : (ks : List RuledCheck) → Tells ks → (r : Refusal) → (verdict_of (map (λ k. k.check) ks) ≡ Err r) ↔ GivenBy ks r
unfolding verdict_of GivenBy Tells
refused_of [] t r = ((λ e. false≢true (cc)), absurd)
refused_of (k ∷ ks) t r = elim (which (eqb (first_failing k.check) k.check.rows)) [
  | inl e ↦ (
      let p = passed k.check e in
      let kept : Kept k = (λ i h. (t.0 i h).0 (p i h)) in
      let later = refused_of ks (t.1 p) r in
      rw (verdict_of, e) ((λ v. inr (kept, later.0 v)), elim [ inl b ↦ absurd (kept_or_broken k r kept b) | inr g ↦ later.1 g.1 ]))
  | inr e ↦ (
      let q = k.check.refusal (first_failing k.check) in
      let f : Broken k q = failed k t.0 e in
      rw (verdict_of, e) ((λ v. let z : q ≡ r = cc in inl (rw z at f)), elim [ inl b ↦ ap Err (one_refusal k q r f b) | inr g ↦ absurd (kept_or_broken k q g.0 f) ]))
]

-- every check of the list is kept
AllKept : List RuledCheck → Type 0
AllKept [] = Unit {0}
AllKept (k ∷ ks) = Kept k × AllKept ks

-- the law for acceptance, for any list of checks
accepted_of : (ks : List RuledCheck) → Tells ks → (verdict_of (map (λ k. k.check) ks) ≡ (Ok tt)) ↔ AllKept ks
unfolding verdict_of AllKept Tells
accepted_of [] t = ((λ e. tt), (λ u. refl))
accepted_of (k ∷ ks) t = elim (which (eqb (first_failing k.check) k.check.rows)) [
  | inl e ↦ (
      let p = passed k.check e in
      let later = accepted_of ks (t.1 p) in
      rw (verdict_of, e) ((λ v. ((λ i h. (t.0 i h).0 (p i h)), later.0 v)), (λ g. later.1 g.1)))
  | inr e ↦ rw (verdict_of, e) ((λ v. absurd (false≢true (cc))), (λ g. absurd (kept_or_broken k _ g.0 (failed k t.0 e))))
]

-- ---- the checks of the tables

-- what needs nothing of the check before it
infixr 5 ◌then◌
◌then◌ : {A B C : Type 0} → A → B → A × (C → B)
a then b = (a, λ p. b)

-- only OVERLAP needs an earlier check, LITERAL
told : (c : Tables) → Tells (ruled c)
unfolding Tells ruled checks zip_with ◌then◌
told c =
    (λ i h. size_tells c)
    then (λ i h. hierarchy_tells c i)
    then (λ i h. initial_tells c i)
    then (λ i h. preset_tells c i)
    then (λ i h. pair_tells c (timer_count c) c.timer_pairs i)
    then (λ i h. pair_tells c c.outputs c.output_pairs i)
    then (λ i h. move_tells c i)
    then (
      (λ i h. literal_tells c i),
      λ literals.
          (λ i h. idle_tells c i)
          then (λ i h. overlap_tells c i (λ j z. literals j (omega arith)))
          then (λ i h. flip_flop_tells c)
          then tt,
    )

-- each refusal is given exactly when its rule is broken at the row it names, no earlier row breaks it, and every earlier check is kept
pub refused_exactly : (c : Tables) (r : Refusal) → (verdict c ≡ Err r) ↔ GivenBy (ruled c) r
unfolding verdict
refused_exactly c r = rw (verdict, ← same_checks c) (refused_of (ruled c) (told c) r)

-- to keep every check is to keep all the rules
all_kept_tells : (c : Tables) → AllKept (ruled c) ↔ Rules c
unfolding AllKept ruled checks zip_with
all_kept_tells c = ((λ g. search (g.0 0 (omega arith), g.1.1.1.1.1.1.1.1.1.1.0 0 (omega arith))), (λ r. search depth 14))

-- accepted exactly when no rule is broken
pub accepted_exactly : (c : Tables) → (verdict c ≡ (Ok tt)) ↔ Rules c
unfolding verdict
accepted_exactly c = rw (verdict, ← same_checks c) (trans (accepted_of (ruled c) (told c)) (all_kept_tells c))

-- from n on, each check's refusals have the next number, and the refusal of a row has that row for its place
unfoldable pub NumberedFrom : ℕ → List Check → Type 0
NumberedFrom n [] = Unit {0}
NumberedFrom n (k ∷ ks) = ((i : ℕ) → i < k.rows → (number_of (k.refusal i) ≡ n) × (place_of (k.refusal i) ≡ i)) × NumberedFrom (suc n) ks

-- the checks are numbered from 1 as they stand, and the place is the row
pub number_and_place : (c : Tables) → NumberedFrom 1 (checks c)
unfolding NumberedFrom checks
number_and_place c = search (refl, arith) depth 14
