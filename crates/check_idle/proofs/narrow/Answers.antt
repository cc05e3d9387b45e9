-- A level more narrows the state that it passes; the way up has passed all that is at or above l once it is at the root.
use native.Mathlib.Omega.{arith}
use native.Mathlib.Numerals.{add-one}
use mathlib.Core.Path.{◌≡◌, refl, sym, ◌∙◌}
use lib.ListN.{get_or}
use lib.Dec.{eqb}
use Rattle.meaning.proofs.Laws.Rows.{some_more}
use Rattle.meaning.specs.Rows.{some}
use Rattle.meaning.specs.Hierarchy.{up, at_or_above}
use Rattle.meaning.specs.Literals.{input_on}
use Rattle.tables.specs.Given.{given}
use Rattle.tables.specs.Same.{super_state_same, at_or_above_same}
use Rattle.check_idle.specs.Leaves.{narrow_none, narrow_more, up_to_root}
use Rattle.check_idle.proofs.narrow.Goals as goal

pub loop-k-init : goal.loop-k-init
unfolding up some
loop-k-init c = record { long = refl; here = refl; narrowed = λ n x h. narrow_none (input_on (get_or c.args.words.now x 0) n) (input_on c.args.w n) }

pub returns-then-s-eq0 : goal.returns-then-s-eq0
returns-then-s-eq0 c =
    let b = c.loop-k in
    let a = c.args in
    let d = given a.t.now in
    let f = c.narrow_at in
    record {
      long = f.auto.words ∙ b.invariant.long;
      n_after = λ c' e r n x h.
          rw (at_or_above_same c' d e x a.l, ← up_to_root d a.l x b.k (sym (super_state_same c' d e 0) ∙ r) (omega arith) (sym b.invariant.here ∙ c.if-s-eq0.true), some_more (λ j. eqb (up d j a.l) x) b.k, ← b.invariant.here, f.ensures)
          (narrow_more b.words b.s x a.w n (input_on (get_or a.words.now x 0) n) (some (λ j. eqb (up d j a.l) x) 0 b.k) (omega (arith, b.invariant.long)) (b.invariant.narrowed n x h));
    }

pub loop-k-preserved : goal.loop-k-preserved
unfolding up
loop-k-preserved c =
    let b = c.loop-k in
    let a = c.args in
    let d = given a.t.now in
    let f = c.narrow_at in
    record {
      long = f.auto.words ∙ b.invariant.long;
      here = rw (add-one, ← b.invariant.here) c.super_state-s.ensures;
      narrowed = λ n x h.
          rw (add-one, some_more (λ j. eqb (up d j a.l) x) b.k, ← b.invariant.here, f.ensures)
          (narrow_more b.words b.s x a.w n (input_on (get_or a.words.now x 0) n) (some (λ j. eqb (up d j a.l) x) 0 b.k) (omega (arith, b.invariant.long)) (b.invariant.narrowed n x h));
    }

pub returns : goal.returns
unfolding at_or_above
returns c =
    let b = c.loop-k in
    let z : b.k ≡ 9 = omega arith in
    record { long = b.invariant.long; n_after = λ c' e r n x h. rw (at_or_above_same c' (given c.args.t.now) e x c.args.l) (rw z at (b.invariant.narrowed n x h)) }
