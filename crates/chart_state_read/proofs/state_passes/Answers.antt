-- The length, then the codes, then the values: each test is the definition's, and the arrays hold what the slice stands for.
use native.Mathlib.Omega.{arith}
use mathlib.Core.Path.{◌≡◌, ap, sym, subst, ◌∙◌}
use mathlib.Core.Bool.{true≢false}
use Prim.Native.Nat.{ℕ, suc, ◌+◌, ◌<◌}
use lib.ListN.{length, get_or, take}
use Rattle.meaning.specs.Tables.{state_count, timer_count}
use Rattle.meaning.specs.Hierarchy.{paired}
use Rattle.meaning.specs.Literals.{input_on}
use Rattle.meaning.specs.Machine.{active_leaf}
use Rattle.meaning.proofs.Laws.Machine.{SoundMemory}
use Rattle.meaning.specs.Lent.{lent_length, lent_memory, state_of, state_passes}
use Rattle.check_pairing.specs.Words.{PairedWords}
use Rattle.chart_scan.specs.StepLaws.{rules_tree}
use Rattle.chart_paths.specs.WalkLaws.{walk_active, leaf_known}
use Rattle.tables.specs.Given.{given}
use Rattle.tables.specs.Same.{state_count_same}
use Rattle.check_pairing.specs.SameLaws.{tree_same, paired_words_same}
use Rattle.chart_state_read.specs.CodesLaws.{codes_sound, timers_held, wrong_length, wrong_codes, right_codes, entries_pass, rows_pass}
use Rattle.chart_state_read.proofs.state_passes.Goals as goal

pub returns-then-state-state_length : goal.returns-then-state-state_length
returns-then-state-state_length c d e s p q R C E =
    (sym (wrong_length d R c.args.state.now (λ z. c.if-state-state_length.true (z ∙ sym (c.state_length.ensures d s p R)))), λ z. absurd (true≢false (sym z)))

pub returns-then-not-codes_pass : goal.returns-then-not-codes_pass
returns-then-not-codes_pass c d e s p q R C E =
    let l = c.args.state.now in
    let n = state_count_same d (given c.args.t.now) s in
    let w = c.want_all-from.ensures d s R E.wants_room E.memory_room E.no_memory in
    let m = c.find_all.ensures d l s R (omega (arith, E.memory_room, c.want_all-from.auto.memory)) C w.1 w.2 in
    (sym (wrong_codes d R l (sym (entries_pass d R l c.find_all.new.memory m) ∙ sym (rw (c.state_count.ensures, ← n) at c.codes_pass.ensures) ∙ c.if-not-codes_pass.true)), λ z. absurd (true≢false (sym z)))

pub returns : goal.returns
unfolding timer_count state_of
returns c d e s p q R C E =
    let a = c.args in
    let g = given a.t.now in
    let n = state_count_same d g s in
    let l = a.state.now in
    let mem = c.find_all.new.memory in
    let ts = c.copy_timers.new.timers in
    let rs = c.paired_words.new.words in
    let w = c.want_all-from.ensures d s R E.wants_room E.memory_room E.no_memory in
    let m = c.find_all.ensures d l s R (omega (arith, E.memory_room, c.want_all-from.auto.memory)) C w.1 w.2 in
    let codes = sym (entries_pass d R l mem m) ∙ sym (rw (c.state_count.ensures, ← n) at c.codes_pass.ensures) ∙ c.if-not-codes_pass.false in
    let long : length l ≡ lent_length d = c.if-state-state_length.false ∙ c.state_length.ensures d s p R in
    let few = R.size.few_timers in
    let full : length ts ≡ 32 = c.copy_timers.auto.timers ∙ E.timers_room in
    let held-timers = timers_held d R l ts long full (λ i z. c.copy_timers.ensures i (omega (arith, few, E.timers_room, z)) ∙ ap (λ f. get_or l (f + i) 0) w.0) in
    let sound : SoundMemory d (take (state_count d) mem) = rw m (codes_sound d R l codes) in
    let W : PairedWords d d.timer_pairs rs = subst (λ ps. PairedWords d ps rs) (sym q)
    (paired_words_same g d (sym s) a.t.now.timer_pairs.now rs (c.paired_words.ensures (tree_same d g s (rules_tree d R)) (rw n at E.runs_room) E.no_runs)) in
    let at_leaf : c.active_leaf.result ≡ active_leaf d (take (state_count d) mem) = c.active_leaf.ensures ∙ walk_active d R mem sound in
    let bits : (k : ℕ) → k < 64 → input_on c.at-running.result (suc k) ≡ paired d d.timer_pairs (suc k) (active_leaf d (lent_memory d l)) = λ k z.
    ap (λ v. input_on v (suc k)) c.at-running.ensures ∙ W c.active_leaf.result k (rw at_leaf (leaf_known d R mem sound)) z ∙ ap (paired d d.timer_pairs (suc k)) (at_leaf ∙ ap (active_leaf d) m) in
    let passes : c.values_pass.result ≡ state_passes d l = rw (right_codes d R l long codes, ← rows_pass d R l ts c.at-running.result held-timers bits, e, p)
    (c.values_pass.ensures (rw e at R.size.some_step) (rw p at few)) in
    (passes, λ z. record { state = rw (m, held-timers); running = W })
