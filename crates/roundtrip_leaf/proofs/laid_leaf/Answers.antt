-- The walk ends at a leaf, or goes one level down.
use mathlib.Core.Path.{◌≡◌, sym, ◌∙◌}
use mathlib.Core.Logic.{◌≢◌}
use Prim.Native.Nat.{suc, ◌+◌, ◌-◌}
use native.Mathlib.Omega.{arith}
use Rattle.meaning.specs.Tables.{initial}
use Rattle.meaning.specs.Machine.{descend}
use Rattle.tables.specs.Given.{given}
use Rattle.tables.specs.Same.{initial_same}
use Rattle.roundtrip_leaf.specs.ShownLaws.{initial_some, sub_most, shown_start, shown_stops, shown_goes}
use Rattle.roundtrip_leaf.proofs.laid_leaf.Goals as goal

pub loop-k-init : goal.loop-k-init
loop-k-init c c' e R o = (shown_start c' R c.args.flip_flops.now, omega arith)

pub returns-then-initial-eq0 : goal.returns-then-initial-eq0
returns-then-initial-eq0 c c' e R o =
    let b = c.loop-k in
    let i = b.invariant c' e R o in
    let z : initial c' b.s ≡ 0 = initial_same c' (given c.args.t.now) e b.s ∙ sym c.initial.ensures ∙ c.if-initial-eq0.true in
    (sym (shown_stops c' R c.args.flip_flops.now (8 - b.k) b.s z) ∙ i.0, i.1)

pub loop-k-preserved : goal.loop-k-preserved
loop-k-preserved c c' e R o =
    let b = c.loop-k in
    let fs = c.args.flip_flops.now in
    let i = b.invariant c' e R o in
    let n : initial c' b.s ≢ 0 = λ z. c.if-initial-eq0.false (c.initial.ensures ∙ sym (initial_same c' (given c.args.t.now) e b.s) ∙ z) in
    let z : 8 - b.k ≡ suc (8 - (b.k + 1)) = omega arith in
    let r = c.shown_sub_state-s.ensures c' e R o (initial_some c' R b.s n).1 in
    rw r (sym (shown_goes c' R fs (8 - (b.k + 1)) b.s n) ∙ (rw z at i.0), sub_most c' R fs b.s)

pub returns : goal.returns
unfolding descend
returns c c' e R o =
    let b = c.loop-k in
    let i = b.invariant c' e R o in
    let z : 8 - b.k ≡ 0 = omega arith in
    (rw z at i.0, i.1)
