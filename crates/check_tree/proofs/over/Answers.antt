-- Once the walk is past a, nothing further up is a, since the way up only falls.
use Rattle.std.proofs.Common.{◌≡◌, ◌≤◌, ◌-◌, ◌+◌, false, eqb, refl, sym, ◌∙◌, arith, add-one, below_none, below_more}
use borrow.Author.Tests.{eq-eqb, ne_eqb}
use native.Mathlib.Decide.{dec_le, ℕ_discrete}
use Rattle.meaning.specs.Hierarchy.{up, at_or_above}
use Rattle.meaning.proofs.Laws.Rows.{some_intro, some_none}
use Rattle.tables.specs.Given.{given}
use Rattle.check_tree.specs.Falling.{falls}
use Rattle.check_tree.proofs.over.Goals as goal

pub loop-k-init : goal.loop-k-init
unfolding up
loop-k-init c = (refl, below_none (λ j. eqb (up (given c.args.t.now) j c.args.s) c.args.a ≡ false))

pub returns-then-up-a : goal.returns-then-up-a
unfolding at_or_above
returns-then-up-a c f =
    let b = c.loop-k in
    let g = c.args in
    let d = given g.t.now in
    let u = b.invariant.0 in
    elim (ℕ_discrete b.up g.a) [
      | yes z ↦ eq-eqb b.up g.a z ∙ sym (some_intro (λ k. eqb (up d k g.s) g.a) 0 9 b._k (omega arith) (omega arith) (eq-eqb _ _ (sym u ∙ z)))
      | no z ↦ ne_eqb b.up g.a z ∙ sym (some_none (λ k. eqb (up d k g.s) g.a) 0 9 (λ j p q. elim (dec_le b._k j) [
        | yes h ↦ ne_eqb (up d j g.s) g.a (λ x.
            let y : (j - b._k) + b._k ≡ j = omega arith in
            let w : up d j g.s ≤ up d b._k g.s = rw y at (falls d f g.s b._k (j - b._k)) in
            z (omega (arith, w, u, x, c.if-up-a.true)))
        | no h ↦ b.invariant.1 j (omega arith)
      ]))
    ]

pub loop-k-preserved : goal.loop-k-preserved
unfolding up
loop-k-preserved c =
    let b = c.loop-k in
    let g = c.args in
    let d = given g.t.now in
    let u = b.invariant.0 in (
      rw (add-one, ← u) c.super_state-up.ensures,
      below_more (λ j. eqb (up d j g.s) g.a ≡ false) b._k b.invariant.1 (ne_eqb (up d b._k g.s) g.a (λ x. omega (arith, c.if-up-a.false, u, x))),
    )

pub returns : goal.returns
unfolding at_or_above
returns c f =
    let b = c.loop-k in
    let g = c.args in
    sym (some_none (λ k. eqb (up (given g.t.now) k g.s) g.a) 0 9 (λ j p q. b.invariant.1 j (omega arith)))
