-- By the laws of a plain move and of one with history, as the target is a state.
use Rattle.std.proofs.Common.{sym, ◌∙◌, ◌<◌, arith, lt-ltb, le-ltb}
use Rattle.meaning.specs.Tables.{state_count, move_count}
use Rattle.meaning.proofs.Laws.Machine.{target_known}
use Rattle.tables.specs.Given.{given}
use Rattle.tables.specs.Same.{move_count_same, target_same, mark_same}
use Rattle.chart_moving.specs.EnterLaws.{moved_history, moved_plain}
use Rattle.chart_moving.proofs.enter.Goals as goal

pub returns-then-move_count-i : goal.returns-then-move_count-i
returns-then-move_count-i c c' e f R h =
    let a = c.args in
    rw (le-ltb a.i (move_count c') (omega (arith, c.move_count.ensures, move_count_same c' (given a.t.now) f)))

pub returns-then-mark-eq0 : goal.returns-then-mark-eq0
returns-then-mark-eq0 c c' e f R h =
    let a = c.args in
    let g = given a.t.now in
    let k : a.i < move_count c' = omega (arith, c.move_count.ensures, move_count_same c' g f) in
    let t = c.target-target.ensures ∙ sym (target_same c' g f a.i) in
    let v : c.target-target.result < state_count c' = rw t (target_known c' R a.i k) in
    rw (lt-ltb a.i (move_count c') k, c.set_below.ensures c' e R v, c.set_above.ensures c' e R v, t)
    (moved_plain c' R a.memory.now h a.i k (mark_same c' g f a.i ∙ sym c.mark.ensures ∙ c.if-mark-eq0.true))

pub returns-else-mark-eq0 : goal.returns-else-mark-eq0
returns-else-mark-eq0 c c' e f R h =
    let a = c.args in
    let g = given a.t.now in
    let k : a.i < move_count c' = omega (arith, c.move_count.ensures, move_count_same c' g f) in
    let t = c.target-target.ensures ∙ sym (target_same c' g f a.i) in
    let v : c.target-target.result < state_count c' = rw t (target_known c' R a.i k) in
    rw (lt-ltb a.i (move_count c') k, c.set_above.ensures c' e R v, t)
    (moved_history c' R a.memory.now h a.i k (λ z. c.if-mark-eq0.false (c.mark.ensures ∙ sym (mark_same c' g f a.i) ∙ z)))
