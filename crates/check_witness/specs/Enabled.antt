-- The witness of an OVERLAP: in its state and in every leaf below, with on what it says to be on and off what it says to
-- be off, both moves are enabled; and there is such a setting.
use Rattle.std.specs.Prelude.{◌≡◌, ◌⊎◌, Bool, ◌||◌, Err}
use Rattle.std.proofs.Math.Path.{refl, sym, ap}
use Rattle.std.proofs.Common.{◌∙◌}
use Rattle.std.proofs.Math.Logic.{inl, inr}
use Rattle.std.proofs.Math.Bool.{true, false}
use Prim.Native.Nat.{ℕ, zero, suc, ◌+◌, ◌-◌, ◌≤◌, ◌<◌, max}
use native.Mathlib.Omega.{arith}
use Rattle.std.proofs.Math.Decide.{dec_le}
use borrow.Author.Tests.{not-true}
use Rattle.meaning.proofs.Laws.Rows.{and_both, and_r, or_l, or_r, or_cases, least_passes}
use Rattle.meaning.proofs.Laws.Hierarchy.{at_or_above_tells, up_add}
use Rattle.meaning.proofs.Laws.Needs.{Fits, holds_fits, fits_holds, inputs_known, timers_known, clash_back}
use Rattle.meaning.proofs.Laws.Overlap.{both_hold, overlaps_tells, place_known}
use Rattle.meaning.specs.Tables.{Tables, literal_places, state_count, move_count, super_state, source}
use Rattle.meaning.specs.Hierarchy.{up, at_or_above}
use Rattle.meaning.specs.Literals.{Setting, input_on}
use Rattle.meaning.specs.Needs.{needs_on, needs_off, needed_by, clash, both_on, both_off, just_on, lower}
use Rattle.meaning.specs.Rules.{AtOrAbove, Overlap}
use Rattle.meaning.specs.Check.{overlaps, earlier, verdict}
use Rattle.meaning.specs.Machine.{enabled}
use Rattle.meaning.specs.declared.Refusal.TheVariants as R
use Rattle.check_tree.specs.Falling.{falling, falls}
use Rattle.check_witness.specs.declared.Witness.{Witness}
use Rattle.check_witness.specs.Shown.{Witnessed}
use Rattle.check_witness.specs.Passed.{Passed, overlap_known}

-- v has on what w says to be on, and off what w says to be off
pub record AsShown (w : Witness) (v : Setting) : Type 0 where
  pub inputs_on : (n : ℕ) → 1 ≤ n → n ≤ 64 → input_on w.on.inputs n ≡ true → v.input n ≡ true
  pub inputs_off : (n : ℕ) → 1 ≤ n → n ≤ 64 → input_on w.off.inputs n ≡ true → v.input n ≡ false
  pub timers_on : (t : ℕ) → 1 ≤ t → t ≤ 64 → input_on w.on.timers t ≡ true → v.expired t ≡ true
  pub timers_off : (t : ℕ) → 1 ≤ t → t ≤ 64 → input_on w.off.timers t ≡ true → v.expired t ≡ false

-- ---- the way up, where HIERARCHY passes

module _ (c : Tables) (p : Passed c) where
  root_up : (k : ℕ) → up c k 0 ≡ 0
  unfolding up
  root_up zero = refl
  root_up (suc k) = ap (super_state c) (root_up k) ∙ (p.hierarchy 0 p.size.some_state).root refl

  -- what is at or above a state that is at or above l is so too
  above_above : (a b l : ℕ) → l < state_count c → AtOrAbove c a b → AtOrAbove c b l → AtOrAbove c a l
  above_above a b l h r s = elim (dec_le (r.0 + s.0) 8) [
    | yes g ↦ (r.0 + s.0, g, up_add c r.0 s.0 l ∙ ap (up c r.0) s.2 ∙ r.2)
    | no g ↦ (let d = (p.hierarchy l h).shallow in
        let k : r.0 + s.0 ≡ (r.0 + s.0 - d.0) + d.0 = omega (arith, d.1, g) in
        let z : up c (r.0 + s.0) l ≡ 0 = ap (λ x. up c x l) k ∙ up_add c (r.0 + s.0 - d.0) d.0 l ∙ ap (up c (r.0 + s.0 - d.0)) d.2 ∙ root_up (r.0 + s.0 - d.0) in
        let y : a ≡ 0 = sym (up_add c r.0 s.0 l ∙ ap (up c r.0) s.2 ∙ r.2) ∙ z in
        (d.0, d.1, d.2 ∙ sym y))
  ]

  above_low : (a b : ℕ) → AtOrAbove c a b → a ≤ b
  unfolding up
  above_low a b r = let f = falls c (falling c p.size.state_rows p.hierarchy) b 0 r.0 in
      let z : r.0 + 0 ≡ r.0 = omega arith in omega (arith, ap (λ x. up c x b) z ∙ r.2, f)

  -- both sources are at or above what is at or below the lower
  sources_above : (i j l : ℕ) → l < state_count c → AtOrAbove c (source c i) (source c j) ⊎ AtOrAbove c (source c j) (source c i)
      → AtOrAbove c (lower c i j) l → AtOrAbove c (source c i) l × AtOrAbove c (source c j) l
  sources_above i j l h (inl r) s =
      let z : lower c i j ≡ source c j = omega (arith, above_low (source c i) (source c j) r) in
      let t : AtOrAbove c (source c j) l = rw z at s in (above_above (source c i) (source c j) l h r t, t)
  sources_above i j l h (inr r) s =
      let z : lower c i j ≡ source c i = omega (arith, above_low (source c j) (source c i) r) in
      let t : AtOrAbove c (source c i) l = rw z at s in (t, above_above (source c j) (source c i) l h r t)

-- ---- the witness

module _ (c : Tables) (i : ℕ) (w : Witness) (W : Witnessed c w) (e : verdict c ≡ Err (R.Overlap i)) where
  -- what one of the two moves needs stands in the words, so a setting as they say fits it
  one_fits : (k : ℕ) (v : Setting) → AsShown w v
      → ((n : ℕ) → (needs_on c k).inputs n ≡ true → (both_on c (earlier c i) i).inputs n ≡ true) → ((n : ℕ) → (needs_off c k).inputs n ≡ true → (both_off c (earlier c i) i).inputs n ≡ true)
      → ((t : ℕ) → (needs_on c k).timers t ≡ true → (both_on c (earlier c i) i).timers t ≡ true) → ((t : ℕ) → (needs_off c k).timers t ≡ true → (both_off c (earlier c i) i).timers t ≡ true)
      → Fits c v k
  one_fits k v s f g p q = record { inputs = ins; timers = tims }
    where
      ins : (b : Bool) (n : ℕ) → (needed_by c k literal_places b).inputs n ≡ true → v.input n ≡ b
      ins true n d = let r = inputs_known c k literal_places true n d in s.inputs_on n r.0 r.1 ((W.overlap i e).on.inputs n r.0 r.1 ∙ f n d)
      ins false n d = let r = inputs_known c k literal_places false n d in s.inputs_off n r.0 r.1 ((W.overlap i e).off.inputs n r.0 r.1 ∙ g n d)

      tims : (b : Bool) (t : ℕ) → (needed_by c k literal_places b).timers t ≡ true → v.expired t ≡ b
      tims true t d = let r = timers_known c k literal_places true t d in let h : t ≤ 64 = omega (arith, r.1) in s.timers_on t r.0 h ((W.overlap i e).on.timers t r.0 h ∙ p t d)
      tims false t d = let r = timers_known c k literal_places false t d in let h : t ≤ 64 = omega (arith, r.1) in s.timers_off t r.0 h ((W.overlap i e).off.timers t r.0 h ∙ q t d)

  -- both moves are enabled
  pub witness_enables : (v : Setting) → AsShown w v → (l : ℕ) → l < state_count c → AtOrAbove c w.state l
      → (enabled c v l w.earlier ≡ true) × (enabled c v l i ≡ true)
  unfolding enabled earlier
  witness_enables v s l h a =
      let k = overlap_known c i e in
      let o = W.overlap i e in
      let j = earlier c i in
      let P = k.passed.literals in
      let J : j < move_count c = omega (arith, k.some, k.known) in
      let near : Overlap c i j = (overlaps_tells c i j (P i k.known) (P j J)).0 (earlier_overlaps k.some) in
      let t = sources_above c k.passed i j l h near.near (rw (o.state, max_comm (source c j) (source c i)) at a) in
      let F = one_fits j v s (λ n d. or_l _ _ d) (λ n d. or_l _ _ d) (λ n d. or_l _ _ d) (λ n d. or_l _ _ d) in
      let G = one_fits i v s (λ n d. or_r ((needs_on c j).inputs n) _ d) (λ n d. or_r ((needs_off c j).inputs n) _ d) (λ n d. or_r ((needs_on c j).timers n) _ d) (λ n d. or_r ((needs_off c j).timers n) _ d) in (
        rw o.earlier (and_both _ _ ((at_or_above_tells c (source c j) l).1 t.1) (fits_holds c v j (λ m z. place_known c j m (P j J) z) F)),
        and_both _ _ ((at_or_above_tells c (source c i) l).1 t.0) (fits_holds c v i (λ m z. place_known c i m (P i k.known) z) G),
      )
    where
      earlier_overlaps : earlier c i < i → overlaps c i (earlier c i) ≡ true
      earlier_overlaps z = least_passes (overlaps c i) 0 i (omega arith)

      max_comm : (x y : ℕ) → max x y ≡ max y x
      max_comm x y = omega arith

  -- they are two moves, and there is such a state
  pub witness_known : (w.earlier < i) × (i < move_count c) × (w.state < state_count c)
  witness_known =
      let k = overlap_known c i e in
      let o = W.overlap i e in
      let near : (j : ℕ) → j < move_count c → source c j < state_count c = k.passed.sources in
      (rw o.earlier k.some, k.known, rw o.state (omega (arith, near (earlier c i) (omega (arith, k.some, k.known)), near i k.known)))

  -- there is such a setting: on is just what the two moves together need on
  pub witness_setting : AsShown w (just_on (both_on c (earlier c i) i))
  unfolding overlaps earlier
  witness_setting =
      let k = overlap_known c i e in
      let o = W.overlap i e in
      let j = earlier c i in
      let P = k.passed.literals in
      let J : j < move_count c = omega (arith, k.some, k.known) in
      let n : clash c j i ≡ false = clash_back c j i ∙ not-true (clash c i j) (and_r (at_or_above c (source c i) (source c j) || at_or_above c (source c j) (source c i)) _ (earlier_overlaps k.some)) in
      let b = both_hold c j i (P j J) (P i k.known) n in
      let F = holds_fits c (just_on (both_on c j i)) j b.0 in
      let G = holds_fits c (just_on (both_on c j i)) i b.1 in
      record {
        inputs_on = λ n h g d. sym (o.on.inputs n h g) ∙ d;
        inputs_off = λ n h g d. elim (or_cases ((needs_off c j).inputs n) ((needs_off c i).inputs n) (sym (o.off.inputs n h g) ∙ d)) [ inl z ↦ F.inputs false n z | inr z ↦ G.inputs false n z ];
        timers_on = λ n h g d. sym (o.on.timers n h g) ∙ d;
        timers_off = λ n h g d. elim (or_cases ((needs_off c j).timers n) ((needs_off c i).timers n) (sym (o.off.timers n h g) ∙ d)) [ inl z ↦ F.timers false n z | inr z ↦ G.timers false n z ];
      }
    where
      earlier_overlaps : earlier c i < i → overlaps c i (earlier c i) ≡ true
      earlier_overlaps z = least_passes (overlaps c i) 0 i (omega arith)
