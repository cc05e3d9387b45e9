-- What is found at a state of the path is the enabled move; above the root is only the root, so with none found there
-- none holds on the path.
use Rattle.std.proofs.Common.{◌≡◌, refl, ap, sym, ◌∙◌, suc, ◌<◌, arith, add-one, below_more}
use native.Mathlib.Decide.{dec_le}
use Rattle.meaning.specs.Tables.{move_count}
use Rattle.meaning.specs.Hierarchy.{up}
use Rattle.meaning.proofs.Laws.Tree.{up_le}
use Rattle.tables.specs.Given.{given}
use Rattle.tables.specs.Same.{super_state_same}
use Rattle.chart_scan.specs.Choice.{read, last_holding, counted}
use Rattle.chart_scan.specs.LinkLaws.{root_stays, found, found_chosen, none_on_path}
use Rattle.chart_scan.proofs.chosen.Goals as goal

pub loop-k-init : goal.loop-k-init
unfolding up
loop-k-init c c' e R L A h k g = (refl, λ m z. absurd (omega arith))

pub returns-in-Some : goal.returns-in-Some
returns-in-Some c c' e f R L A h k g =
    let a = c.args in
    let b = c.loop-k in
    let v = read a.on in
    let r = b.invariant c' e R L A h k g in
    let low : b.s < 256 = omega (arith, r.0, up_le c' R b.k a.l, k) in
    let q : counted c.chosen_from.result ≡ suc c.in-Some.i = ap counted c.in-Some.is in
    let y : last_holding c' v (up c' b.k a.l) (move_count c') ≡ suc c.in-Some.i = ap (λ s. last_holding c' v s (move_count c')) (sym r.0) ∙ sym (c.chosen_from.ensures c' R L A h low g) ∙ q in
    ((found c' v (up c' b.k a.l) (move_count c') c.in-Some.i y).0, found_chosen c' v R a.l b.k c.in-Some.i (omega arith) y)

pub returns-then-s-eq0 : goal.returns-then-s-eq0
returns-then-s-eq0 c c' e f R L A h k g =
    let a = c.args in
    let b = c.loop-k in
    let v = read a.on in
    let r = b.invariant c' e R L A h k g in
    let low : b.s < 256 = omega (arith, r.0, up_le c' R b.k a.l, k) in
    let z : counted c.chosen_from.result ≡ 0 = ap counted c.in_default.is in
    let here : last_holding c' v b.s (move_count c') ≡ 0 = sym (c.chosen_from.ensures c' R L A h low g) ∙ z in
    sym (none_on_path c' v a.l (λ m q. elim (dec_le (suc m) b.k) [
      | yes y ↦ r.1 m y
      | no y ↦ ap (λ s. last_holding c' v s (move_count c')) (root_stays c' R b.k m a.l (sym r.0 ∙ c.if-s-eq0.true) (omega arith) ∙ sym c.if-s-eq0.true) ∙ here
    ]))

pub loop-k-preserved : goal.loop-k-preserved
unfolding up
loop-k-preserved c c' e R L A h k g =
    let a = c.args in
    let b = c.loop-k in
    let v = read a.on in
    let r = b.invariant c' e R L A h k g in
    let low : b.s < 256 = omega (arith, r.0, up_le c' R b.k a.l, k) in
    let z : counted c.chosen_from.result ≡ 0 = ap counted c.in_default.is in
    let here : last_holding c' v b.s (move_count c') ≡ 0 = sym (c.chosen_from.ensures c' R L A h low g) ∙ z in (
      rw (add-one, ← r.0) (c.super_state-s.ensures ∙ sym (super_state_same c' (given a.t.now) e b.s)),
      below_more (λ m. last_holding c' v (up c' m a.l) (move_count c') ≡ 0) b.k r.1 (ap (λ s. last_holding c' v s (move_count c')) (sym r.0) ∙ here),
    )

pub returns : goal.returns
returns c c' e f R L A h k g =
    let a = c.args in
    let b = c.loop-k in
    sym (none_on_path c' (read a.on) a.l (λ m q. (b.invariant c' e R L A h k g).1 m (omega arith)))
