-- A leaf narrows by the timers that it runs, any other state by nothing.
use native.Mathlib.Omega.{arith}
use mathlib.Core.Path.{refl, sym, ap, ◌∙◌}
use lib.ListN.{get_or}
use lib.Dec.{eqb}
use borrow.Author.Tests.{eq-eqb, ne_eqb}
use Rattle.meaning.specs.Literals.{input_on}
use Rattle.meaning.proofs.Laws.Rules.{leaf_initial}
use Rattle.tables.specs.Given.{given}
use Rattle.tables.specs.Same.{initial_same}
use Rattle.check_idle.specs.Leaves.{narrow_not, narrow_leaf, running_at}
use Rattle.check_idle.proofs.narrow_leaf.Goals as goal

pub returns-else-initial-eq0 : goal.returns-else-initial-eq0
returns-else-initial-eq0 c = record {
  long = refl;
  n_after = λ c' e r h n x p q g.
      let a = c.args in
      let s = c.initial in
      narrow_not c' (input_on (get_or a.words.now x 0) n) n x a.l
      (leaf_initial c' a.l (r.sound.initials a.l h) ∙ ap (λ y. eqb y 0) (initial_same c' (given a.t.now) e a.l ∙ sym s.ensures) ∙ ne_eqb s.result 0 c.if-initial-eq0.false);
}

pub returns-then-initial-eq0 : goal.returns-then-initial-eq0
returns-then-initial-eq0 c =
    let a = c.args in
    let s = c.initial in
    let w = c.at in
    let f = c.narrow in
    record {
      long = f.ensures.long;
      n_after = λ c' e r h n x p q g.
          f.ensures.n_after c' e ((r.sound.tree.hierarchy 0 (omega arith)).root refl) n x g
          ∙ narrow_leaf c' n x a.l (input_on (get_or a.words.now x 0) n) (input_on w.result n)
          (leaf_initial c' a.l (r.sound.initials a.l h) ∙ ap (λ y. eqb y 0) (initial_same c' (given a.t.now) e a.l ∙ sym s.ensures) ∙ eq-eqb s.result 0 c.if-initial-eq0.true)
          (ap (λ y. input_on y n) w.ensures ∙ running_at c' a.running.now n a.l r.running p q h);
    }
