-- A scan leaves a valid state, and what is seen after it is seen of that state.
use Rattle.std.proofs.Common.{refl, ap, ◌∙◌, ◌≤◌, length, get_or, set, take, take_all, arith}
use Rattle.meaning.specs.Machine.{seen_at_leaf, trace, state_after_scans, Valid}
use Rattle.meaning.proofs.Laws.Machine.{valid_sound, step_valid, after_valid}
use Rattle.chart_paths.specs.WalkLaws.{walk_active, leaf_known}
use Rattle.chart_scan.specs.Held.{held}
use Rattle.chart_scan.specs.StepLaws.{ran_shown}
use Rattle.chart_scan.proofs.run_made.Goals as goal

pub loop-i-init : goal.loop-i-init
unfolding trace state_after_scans
loop-i-init c c' d e f g R M W lm lt v p q =
    (record { state = refl; leaves = refl; outputs = refl }, c.active_leaf-l.ensures ∙ walk_active c' R c.args.memory.now (valid_sound c' R _ v))

pub loop-i-preserved : goal.loop-i-preserved
loop-i-preserved c c' d e f g R M W lm lt v p q =
    let a = c.args in
    let b = c.loop-i in
    let i = c.loop-i-test.true in
    let n = c.scan-l in
    let m' = n.new.memory in
    let ts' = n.new.timers in
    let s = c.show in
    let r = b.invariant c' d e f g R M W lm lt v p q in
    let w : Valid c' (held c' b.memory b.timers) = rw r.0.state (after_valid c' R (take b.i a.inputs.now) _ v) in
    let t = n.ensures c' d e f g R M (omega (arith, lm, b.auto.memory)) (b.auto.timers ∙ lt) w r.1 in
    let u : Valid c' (held c' m' ts') = rw t.0 (step_valid c' R _ _ w) in
    let o = s.ensures c' R W (rw t.1 (leaf_known c' R m' (valid_sound c' R _ u))) in (
      ran_shown c' (held c' a.memory.now a.timers.now) a.inputs.now b.leaves b.outputs s.new.leaves s.new.outputs
          b.memory b.timers m' ts' b.i (get_or a.inputs.now b.i 0) refl i (omega (arith, b.auto.leaves, p, i)) (omega (arith, b.auto.outputs, q, i)) r.0 t.0
          (o.0 ∙ ap (set b.leaves b.i) t.1) (o.1 ∙ ap (λ l. set b.outputs b.i (seen_at_leaf c' l).outputs) t.1),
      t.1,
    )

pub returns : goal.returns
returns c c' d e f g R M W lm lt v p q =
    let b = c.loop-i in
    let a = c.args in
    let n : length a.inputs.now ≤ b.i = omega arith in
    rw (take_all b.i a.inputs.now n, take_all b.i b.leaves (omega (arith, b.auto.leaves)), take_all b.i b.outputs (omega (arith, b.auto.outputs))) at (b.invariant c' d e f g R M W lm lt v p q).0
