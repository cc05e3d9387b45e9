-- State by state, from words that have every number.
use native.Mathlib.Omega.{arith}
use native.Mathlib.Numerals.{add-one}
use mathlib.Core.Path.{◌≡◌, refl, sym, ap, ◌∙◌}
use Rattle.meaning.specs.Rows.{some}
use Rattle.meaning.specs.Tables.{state_count}
use Rattle.meaning.specs.Literals.{input_on}
use Rattle.meaning.specs.Check.{runs_below}
use Rattle.tables.specs.Given.{given}
use Rattle.tables.specs.Same.{state_count_same}
use Rattle.check_idle.specs.Leaves.{leaf_runs, full_on, every_more}
use Rattle.check_idle.proofs.run_below.Goals as goal

pub loop-l-init : goal.loop-l-init
unfolding some
loop-l-init c = record { long = refl; narrowed = λ c' e r z n x p q h. ap (λ w. input_on w n) (z x h) ∙ full_on n p q }

pub loop-l-preserved : goal.loop-l-preserved
loop-l-preserved c =
    let b = c.loop-l in
    let f = c.narrow_leaf.ensures in
    record {
      long = f.long ∙ b.invariant.long;
      narrowed = λ c' e r z n x p q h.
          let m = c.state_count-l-end.ensures ∙ sym (state_count_same c' (given c.args.t.now) e) in
          rw (add-one, every_more (leaf_runs c' n x) b.l, ← b.invariant.narrowed c' e r z n x p q h)
          (f.n_after c' e r (omega (arith, m, c.loop-l-test.true)) n x p q (omega (arith, b.invariant.long, h)));
    }

pub returns : goal.returns
unfolding runs_below
returns c c' e r m z n x p q h =
    let b = c.loop-l in
    let k = c.state_count-l-end.ensures ∙ sym (state_count_same c' (given c.args.t.now) e) in
    let y : b.l ≡ state_count c' = omega (arith, k) in
    rw y at (b.invariant.narrowed c' e r z n x p q (omega (arith, m, h)))
