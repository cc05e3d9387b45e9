-- The walk ends where nothing is remembered; elsewhere it goes one level down.
use Rattle.std.proofs.Common.{◌≡◌, ◌≢◌, sym, ◌∙◌, suc, ◌-◌, ◌+◌, arith, eq-eqb, ne_eqb}
use Rattle.meaning.specs.Machine.{remembered}
use Rattle.chart_paths.specs.Walk.{walk}
use Rattle.chart_paths.proofs.active_leaf.Goals as goal

pub returns-then-below-eq0 : goal.returns-then-below-eq0
unfolding walk
returns-then-below-eq0 c =
    let b = c.loop-k in
    let g = remembered c.args.memory.now in
    let z : 8 - b.k ≡ suc (8 - (b.k + 1)) = omega arith in
    rw (z, walk, eq-eqb (g b.s) 0 (sym c.remembered-below.ensures ∙ c.if-below-eq0.true)) at b.invariant

pub loop-k-preserved : goal.loop-k-preserved
unfolding walk
loop-k-preserved c =
    let b = c.loop-k in
    let g = remembered c.args.memory.now in
    let z : 8 - b.k ≡ suc (8 - (b.k + 1)) = omega arith in
    let n : g b.s ≢ 0 = λ x. c.if-below-eq0.false (c.remembered-below.ensures ∙ x) in
    rw c.remembered-below.ensures (rw (z, walk, ne_eqb (g b.s) 0 n) at b.invariant)

pub returns : goal.returns
unfolding walk
returns c = let b = c.loop-k in let z : 8 - b.k ≡ 0 = omega arith in rw z at b.invariant
