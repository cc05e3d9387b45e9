-- One state more is remembered of its super-state, or changes nothing; the root changes nothing.
use Rattle.std.proofs.Common.{◌≡◌, ◌≢◌, ap, sym, ◌∙◌, refl, arith, inl, suc, ◌-◌, ◌<◌, true, false, get_or, set}
use borrow.Author.Tests.{eq-eqb, ne_eqb}
use Rattle.meaning.specs.Tables.{state_count, super_state}
use Rattle.meaning.specs.Lent.{coded, lent_code}
use Rattle.tables.specs.Given.{given}
use Rattle.tables.specs.Same.{state_count_same, super_state_same}
use Rattle.chart_state_read.specs.CodesLaws.{coded_else, found_past, found_set, found_keep, found_all, own_coded, super_of}
use Rattle.chart_state_read.proofs.find_all.Goals as goal

pub loop-s-init : goal.loop-s-init
loop-s-init c d l e R lm C W F =
    let n : c.state_count-s.result ≡ state_count d = c.state_count-s.ensures ∙ sym (state_count_same d (given c.args.t.now) e) in
    (omega (arith, n, R.size.some_state), rw n F)

pub loop-s-preserved-then-from-at : goal.loop-s-preserved-then-from-at
loop-s-preserved-then-from-at c d l e R lm C W F =
    let b = c.loop-s in
    let g = given c.args.t.now in
    let s = b.s - 1 in
    let n : s ≢ 0 = λ z. omega arith in
    let h : s < state_count d = omega (arith, state_count_same d g e) in
    let z : suc s ≡ b.s = omega arith in
    let u : c.super_state-a.result ≡ super_state d s = c.super_state-a.ensures ∙ sym (super_state_same d g e s) in
    let o : coded d (super_state d s) (lent_code d l (super_state d s)) s ≡ true = own_coded d R l c.args.codes.now c.args.wants.now s n h C W
    ∙ eq-eqb _ _ (sym c.at.ensures ∙ sym c.from.ensures ∙ c.if-from-at.true ∙ c.at-in-loop-s.ensures ∙ ap (λ k. get_or c.args.wants.now k 0) u) in
    let m : c.remember.new.memory ≡ set b.memory (super_state d s) s = c.remember.ensures (omega (arith, R.size.few_states)) ∙ ap (λ a. set b.memory a s) u in
    (omega arith, rw m (found_set d R l b.memory s h o (omega (arith, lm, super_of d R s n h)) (rw z (b.invariant d l e R lm C W F).1)))

pub loop-s-preserved : goal.loop-s-preserved
loop-s-preserved c d l e R lm C W F =
    let b = c.loop-s in
    let g = given c.args.t.now in
    let s = b.s - 1 in
    let n : s ≢ 0 = λ z. omega arith in
    let h : s < state_count d = omega (arith, state_count_same d g e) in
    let z : suc s ≡ b.s = omega arith in
    let u : c.super_state-a.result ≡ super_state d s = c.super_state-a.ensures ∙ sym (super_state_same d g e s) in
    let o : coded d (super_state d s) (lent_code d l (super_state d s)) s ≡ false = own_coded d R l c.args.codes.now c.args.wants.now s n h C W
    ∙ ne_eqb _ _ (λ y. c.if-from-at.false (c.from.ensures ∙ c.at.ensures ∙ y ∙ sym (c.at-in-loop-s.ensures ∙ ap (λ k. get_or c.args.wants.now k 0) u))) in
    (omega arith, found_keep d R l b.memory s h o (rw z (b.invariant d l e R lm C W F).1))

pub returns : goal.returns
returns c d l e R lm C W F =
    let b = c.loop-s in
    let some = R.size.some_state in
    let i = b.invariant d l e R lm C W F in
    let z : b.s ≡ 1 = omega (arith, i.0) in
    found_all d R l b.memory (omega arith) (λ a h. rw z at i.1 a h ∙ found_past d R l 0 a some (coded_else d a (lent_code d l a) 0 (inl refl)))
