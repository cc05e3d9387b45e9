-- At the root nothing is above; elsewhere one level up is set and one level less is left.
use Rattle.std.proofs.Common.{◌≡◌, sym, ◌∙◌, suc, ◌-◌, ◌+◌, arith, eq-eqb, ne_eqb}
use Rattle.meaning.proofs.Laws.Tree.{super_lt}
use Rattle.tables.specs.Given.{given}
use Rattle.tables.specs.Same.{super_state_same}
use Rattle.chart_moving.specs.Moves.{set_above}
use Rattle.chart_moving.proofs.set_above.Goals as goal

pub returns-then-s-eq0 : goal.returns-then-s-eq0
unfolding set_above
returns-then-s-eq0 c c' e R h =
    let b = c.loop-k in
    let z : 8 - b.k ≡ suc (8 - (b.k + 1)) = omega arith in
    rw (z, set_above, eq-eqb b.s 0 c.if-s-eq0.true) at (b.invariant c' e R h).1

pub loop-k-preserved : goal.loop-k-preserved
unfolding set_above
loop-k-preserved c c' e R h =
    let b = c.loop-k in
    let i = b.invariant c' e R h in
    let z : 8 - b.k ≡ suc (8 - (b.k + 1)) = omega arith in
    let p = c.super_state-above.ensures ∙ sym (super_state_same c' (given c.args.t.now) e b.s) in
    let n = c.if-s-eq0.false in
    let few = R.size.few_states in (
      rw p (omega (arith, super_lt c' R b.s n, i.0)),
      rw (c.remember.ensures (omega (arith, i.0)), p) (rw (z, set_above, ne_eqb b.s 0 n) at i.1),
    )

pub returns : goal.returns
unfolding set_above
returns c c' e R h = let b = c.loop-k in let z : 8 - b.k ≡ 0 = omega arith in rw z at (b.invariant c' e R h).1
