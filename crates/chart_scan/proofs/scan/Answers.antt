-- The words tell which timers run in the leaf before and in the leaf after, so the arrays hold the state after the step.
use Rattle.std.proofs.Common.{◌≡◌, ap, ap₂, sym, ◌∙◌, Bool, ◌&&◌, ℕ, suc, ◌≤◌, ◌<◌, get_or, take, bit_and, arith}
use Rattle.meaning.specs.Tables.{state_count, timer_count}
use Rattle.meaning.specs.Hierarchy.{paired}
use Rattle.meaning.specs.Literals.{input_on}
use Rattle.meaning.specs.Machine.{active_leaf, state_after_step}
use Rattle.meaning.proofs.Laws.Machine.{SoundMemory, valid_sound, step_valid}
use Rattle.meaning.proofs.Laws.Bits.{and_bit}
use Rattle.tables.specs.Given.{given}
use Rattle.tables.specs.Same.{timer_count_same}
use Rattle.chart_paths.specs.WalkLaws.{leaf_known}
use Rattle.chart_timers.specs.Times.{value_grown}
use Rattle.chart_scan.specs.Choice.{move_of}
use Rattle.chart_scan.specs.Held.{held}
use Rattle.chart_scan.specs.LinkLaws.{move_of_is}
use Rattle.chart_scan.specs.StepLaws.{chosen_on, step_held}
use Rattle.chart_scan.proofs.scan.Goals as goal

pub returns : goal.returns
returns c c' d e f g R M lm lt val le =
    let a = c.args in
    let m = a.memory.now in
    let ts = a.timers.now in
    let m' = c.leaf_after-next.new.memory in
    let ts' = c.time.new.timers in
    let ran = c.at-ran.result in
    let goes = bit_and ran c.at.result in
    let few = R.size.few_states in
    let count = timer_count_same c' (given a.t.now) g in
    let fewer : timer_count (given a.t.now) ≤ 32 = omega (arith, count, R.size.few_timers) in
    let S = valid_sound c' R (held c' m ts) val in
    let known : a.l < state_count c' = rw le (leaf_known c' R m S) in
    let bits : (n : ℕ) → n < 64 → input_on ran (suc n) ≡ paired c' c'.timer_pairs (suc n) a.l = λ n z. rw c.at-ran.ensures (M.running a.l n known z) in
    let q = move_of_is c' _ c.chosen-enabled.result (c.chosen-enabled.ensures c' e f R M.linked M.holds M.room (omega (arith, known, few)) (record { inputs = c.ranges.x.fits; timers = c.expired_of.type_inv }))
    ∙ chosen_on c' R a.x ran c.expired_of.result a.l m ts le bits (λ j z. rw g (c.expired_of.ensures fewer j (omega (arith, count, z)))) in
    let after = c.leaf_after-next.ensures c' e f R lm le in
    let next : (T : SoundMemory c' (take (state_count c') m')) → c.leaf_after-next.result ≡ active_leaf c' (take (state_count c') m') = after.1 in
    let both : (T : SoundMemory c' (take (state_count c') m')) (n : ℕ) → n < 64 → input_on goes (suc n) ≡ (paired c' c'.timer_pairs (suc n) (active_leaf c' (take (state_count c') m)) && paired c' c'.timer_pairs (suc n) (active_leaf c' (take (state_count c') m'))) = λ T n z.
    and_bit ran c.at.result (suc n) ∙ ap₂ (λ (p q : Bool). p && q) (bits n z ∙ ap (paired c' c'.timer_pairs (suc n)) le)
    (ap (λ w. input_on w (suc n)) c.at.ensures ∙ M.running c.leaf_after-next.result n (rw (next T) (leaf_known c' R m' T)) z ∙ ap (paired c' c'.timer_pairs (suc n)) (next T)) in
    let held' : held c' m' ts' ≡ state_after_step c' a.x (held c' m ts) = step_held c' R a.x (move_of c' c.chosen-enabled.result) goes m ts m' ts' val (c.time.auto.timers ∙ lt) q
    after.0 both
    (λ j z. c.time.ensures fewer (omega (arith, lt, fewer)) j (omega (arith, count, z)) ∙ ap₂ (λ (u w : ℕ). value_grown u w (input_on goes (suc j)) (get_or ts j 0)) (sym d) (M.longest j z)) in
    (held', next (valid_sound c' R (held c' m' ts') (rw held' (step_valid c' R a.x (held c' m ts) val))))
