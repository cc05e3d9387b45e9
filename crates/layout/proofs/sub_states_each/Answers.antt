-- None is counted before state 1, since the root is nobody's sub-state; each state is one more for its super-state, if
-- a state has that number.
use Rattle.std.proofs.Common.{◌≤◌, ◌∙◌, arith, add-one, get_or}
use Rattle.meaning.specs.Hierarchy.{sub_state}
use Rattle.tables.specs.Given.{given}
use Rattle.layout.specs.Laid.{laid_states, tally}
use Rattle.layout.specs.LaidLaws.{tally_start, tally_le, count_root, count_far, count_next, all_done}
use Rattle.layout.proofs.sub_states_each.Goals as goal
use Rattle.layout.proofs.sub_states_each.Goals.{then-a-lt-STATES, else-a-lt-STATES}

pub loop-s-init : goal.loop-s-init
loop-s-init c = let d = given c.args.t.now in (omega arith, tally_start (sub_state d) ∙ count_root d)

pub overflow_add-counts : goal.overflow_add-counts
overflow_add-counts c =
    let b = c.loop-s in
    let a = c.super_state-a.result in
    let h : get_or b.counts a 0 ≤ b.s = rw b.invariant.1 (tally_le (sub_state (given c.args.t.now)) b.s a (omega arith)) in
    omega arith

pub loop-s-preserved : goal.loop-s-preserved
loop-s-preserved c =
    let b = c.loop-s in
    let d = given c.args.t.now in
    let f = c.super_state-a.ensures in (
      omega arith,
      elim c.if-a-lt-STATES.branch [
        | then-a-lt-STATES w ↦ w.counts-is ∙ rw (add-one b.s, b.invariant.1, f) (count_next d b.s (λ z. omega (arith, z)) (omega arith) (omega arith))
        | else-a-lt-STATES w ↦ w.counts-is ∙ b.invariant.1 ∙ rw add-one (count_far d b.s (omega arith))
      ],
    )

pub returns : goal.returns
returns c =
    let d = given c.args.t.now in
    let b = c.loop-s in
    let n = c.laid_states-s-end.ensures.2 in
    b.invariant.1 ∙ all_done (tally (sub_state d)) b.s (laid_states d) (count_root d) (omega arith) (omega arith) (omega arith)
