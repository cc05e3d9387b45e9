-- A sub-state has code 0 if it is the initial one, and else one more than there are others below it.
use Rattle.std.proofs.Common.{◌≡◌, ◌≢◌, ℕ, suc, ◌+◌, ◌≤◌, true, false, refl, sym, ◌∙◌, arith, add-one, cond, below_none, below_more}
use borrow.Author.Tests.{eq-eqb, ne_eqb}
use lib.Dec.{eqb}
use Rattle.meaning.specs.Rows.{count}
use Rattle.meaning.proofs.Laws.Rows.{least_at, least_none}
use Rattle.meaning.specs.Tables.{Tables, state_count, initial}
use Rattle.meaning.specs.Hierarchy.{sub_state}
use Rattle.meaning.proofs.Laws.Hierarchy.{sub_state_tells}
use Rattle.meaning.specs.Layout.{other_sub_state, code}
use Rattle.meaning.specs.Lent.{coded}
use Rattle.tables.specs.Given.{given}
use Rattle.layout.proofs.sub_with_code.Goals as goal
use Rattle.layout.proofs.sub_with_code.Goals.{then-s-initial, else-s-initial}

module _ (d : Tables) (a s : ℕ) where
  none_more : sub_state d a s ≡ false → count (other_sub_state d a) s ≡ count (other_sub_state d a) (suc s)
  unfolding count other_sub_state
  none_more e = rw e (omega arith)

  not_coded : (k : ℕ) → sub_state d a s ≡ false → coded d a k s ≡ false
  unfolding coded
  not_coded k e = rw e

  module _ (sub : sub_state d a s ≡ true) where
    coded_is : (k : ℕ) → coded d a k s ≡ eqb (cond (eqb s (initial d a)) 0 (suc (count (other_sub_state d a) s))) k
    unfolding coded code
    coded_is k = rw (sub, code, ((sub_state_tells d a s).0 sub).under)

    at_initial : s ≡ initial d a → (count (other_sub_state d a) s ≡ count (other_sub_state d a) (suc s)) × ((k : ℕ) → coded d a k s ≡ eqb 0 k)
    unfolding count other_sub_state
    at_initial i = (
      rw (sub, eq-eqb s (initial d a) i) (omega arith),
      λ k. coded_is k ∙ rw (eq-eqb s (initial d a) i),
    )

    at_other : s ≢ initial d a → let n = count (other_sub_state d a) s in (n + 1 ≡ count (other_sub_state d a) (suc s)) × ((k : ℕ) → coded d a k s ≡ eqb (suc n) k)
    unfolding count other_sub_state
    at_other i = (
      rw (sub, ne_eqb s (initial d a) i),
      λ k. coded_is k ∙ rw (ne_eqb s (initial d a) i),
    )

pub loop-s-init : goal.loop-s-init
unfolding count
loop-s-init c = (omega arith, refl, below_none (λ j. coded (given c.args.t.now) c.args.a c.args.k j ≡ false))

pub loop-s-preserved-then-not-sub_state : goal.loop-s-preserved-then-not-sub_state
loop-s-preserved-then-not-sub_state c =
    let g = c.args in
    let d = given g.t.now in
    let b = c.loop-s in
    let i = b.invariant in
    let e : sub_state d g.a b.s ≡ false = sym c.sub_state.ensures ∙ c.if-not-sub_state.true in (
      omega arith,
      rw add-one (i.1 ∙ none_more d g.a b.s e),
      below_more (λ j. coded d g.a g.k j ≡ false) b.s i.2 (not_coded d g.a b.s g.k e),
    )

pub returns-then-code-k : goal.returns-then-code-k
returns-then-code-k c =
    let g = c.args in
    let d = given g.t.now in
    let b = c.loop-s in
    let e : sub_state d g.a b.s ≡ true = sym c.sub_state.ensures ∙ c.if-not-sub_state.false in
    let k : coded d g.a g.k b.s ≡ true = elim c.if-s-initial.branch [
      | then-s-initial w ↦ (at_initial d g.a b.s e (w.if-s-initial.true ∙ c.initial.ensures)).1 g.k ∙ eq-eqb 0 g.k (sym w.code-is ∙ c.if-code-k.true)
      | else-s-initial w ↦ (at_other d g.a b.s e (λ z. w.if-s-initial.false (z ∙ sym c.initial.ensures))).1 g.k ∙ eq-eqb _ g.k (omega (arith, w.code-is, c.if-code-k.true))
    ] in
    sym (least_at (coded d g.a g.k) 0 (state_count d) b.s (omega arith) (omega arith) k (λ j u v. b.invariant.2 j v))

pub loop-s-preserved : goal.loop-s-preserved
loop-s-preserved c =
    let g = c.args in
    let d = given g.t.now in
    let b = c.loop-s in
    let n = c.if-s-initial in
    let e : sub_state d g.a b.s ≡ true = sym c.sub_state.ensures ∙ c.if-not-sub_state.false in
    let k : (n.others ≤ b.s + 1) × (n.others ≡ count (other_sub_state d g.a) (b.s + 1)) × (coded d g.a g.k b.s ≡ false) = elim n.branch [
      | then-s-initial w ↦ (let r = at_initial d g.a b.s e (w.if-s-initial.true ∙ c.initial.ensures) in (
        omega (arith, w.others-is),
        rw add-one (w.others-is ∙ b.invariant.1 ∙ r.0),
        r.1 g.k ∙ ne_eqb 0 g.k (λ z. c.if-code-k.false (w.code-is ∙ z)),
      ))
      | else-s-initial w ↦ (let r = at_other d g.a b.s e (λ z. w.if-s-initial.false (z ∙ sym c.initial.ensures)) in (
        omega (arith, w.others-is),
        rw add-one (omega (arith, w.others-is, r.0)),
        r.1 g.k ∙ ne_eqb _ g.k (λ z. c.if-code-k.false (omega (arith, w.code-is, z))),
      ))
    ] in (k.0, k.1, below_more (λ j. coded d g.a g.k j ≡ false) b.s b.invariant.2 k.2)

pub returns : goal.returns
returns c =
    let g = c.args in
    let b = c.loop-s in
    let d = given g.t.now in
    let n : state_count d ≡ b.s = sym c.state_count-n.ensures ∙ omega arith in
    sym (least_none (coded d g.a g.k) 0 (state_count d) (λ j u v. b.invariant.2 j (omega arith)) ∙ omega arith)
