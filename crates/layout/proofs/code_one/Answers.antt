-- The next code of a, if a state has that number: 0 for the initial sub-state, and one more than the last for another.
use Rattle.std.proofs.Common.{◌≡◌, ◌≢◌, ◌≤◌, ◌+◌, sym, ap, ◌∙◌, arith, add-one, get_or, length, set}
use lib.Seq.{get_or-set_same}
use Rattle.meaning.specs.Tables.{super_state, initial}
use Rattle.meaning.specs.Layout.{other_sub_state}
use Rattle.tables.specs.Given.{given}
use Rattle.layout.specs.Laid.{tally}
use Rattle.layout.specs.LaidLaws.{length_tally, tally_le, code_far, code_initial, code_next}
use Rattle.layout.proofs.code_one.Goals as goal

pub returns-then-a-ge-STATES : goal.returns-then-a-ge-STATES
returns-then-a-ge-STATES c =
    let f = c.super_state-a.ensures in
    let r = code_far (given c.args.t.now) c.args.s (omega arith) in
    (c.requires.3 ∙ rw add-one r.0, c.requires.4 ∙ rw add-one r.1)

pub returns-then-s-initial : goal.returns-then-s-initial
returns-then-s-initial c =
    let s = c.args.s in
    let d = given c.args.t.now in
    let f = c.super_state-a.ensures in
    let i : s ≡ initial d (super_state d s) = c.if-s-initial.true ∙ c.initial.ensures ∙ ap (initial d) f in
    let r = code_initial d s (λ z. omega (arith, z)) (omega arith) (omega arith) i (omega arith) in
    (c.requires.3 ∙ rw add-one r.0, rw (add-one, c.requires.4) r.1)

pub overflow_add-others : goal.overflow_add-others
overflow_add-others c =
    let g = c.args in
    let a = c.super_state-a.result in
    let h : get_or g.others.now a 0 ≤ g.s = rw c.requires.3 (tally_le (other_sub_state (given g.t.now)) g.s a (omega arith)) in
    omega arith

pub returns : goal.returns
returns c =
    let s = c.args.s in
    let d = given c.args.t.now in
    let a = c.super_state-a.result in
    let v = get_or c.args.others.now a 0 + 1 in
    let p = c.requires in
    let f : a ≡ super_state d s = c.super_state-a.ensures in
    let n : s ≢ initial d (super_state d s) = λ x. c.if-s-initial.false (x ∙ sym (c.initial.ensures ∙ ap (initial d) f)) in
    let r = code_next d s (λ z. omega (arith, z)) (omega arith) (omega arith) n (omega arith) in
    let w : v ≡ get_or (tally (other_sub_state d) s) (super_state d s) 0 + 1 = rw (p.3, f) in
    let m = get_or-set_same c.args.others.now a v 0 (omega (arith, ap length p.3, length_tally (other_sub_state d) s)) in
    (rw (add-one s, p.3, f) r.0, ap (set c.args.codes.now s) (m ∙ w) ∙ rw (add-one s, p.4) r.1)
