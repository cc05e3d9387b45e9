-- A move that sets nothing has no rung; of another the tests stand first, and then its stores.
use mathlib.Core.Path.{◌≡◌, sym, ◌∙◌}
use mathlib.Core.Bool.{true, false}
use mathlib.Core.List.{◌++◌}
use native.Mathlib.Omega.{arith}
use Rattle.meaning.specs.Tables.{source, target, mark}
use Rattle.meaning.proofs.Laws.Machine.{target_known}
use Rattle.meaning.proofs.Laws.Tests.{source_known}
use Rattle.meaning.specs.Programs.{chain_of}
use Rattle.meaning.specs.Written.{state_tests, literal_tests, chain}
use Rattle.tables.specs.Given.{given}
use Rattle.tables.specs.Same.{source_same, target_same, mark_same}
use Rattle.write_bits.specs.SentLaws.{put_lines, put_nil, sent_sent, chain_put, state_tests_lem}
use Rattle.write_rungs.specs.Rungs.{stores_of, is_nil}
use Rattle.write_rungs.specs.RungLaws.{move_none, move_lines}
use Rattle.write_rungs.proofs.put_move.Goals as goal

pub returns-then-sets_none : goal.returns-then-sets_none
returns-then-sets_none c g q d e h =
    let t = given c.args.t.now in
    let i = c.args.i in
    let f = c.target-target.ensures ∙ sym (target_same g t e i) in
    let m = c.mark-mark.ensures ∙ sym (mark_same g t e i) in
    let x : is_nil (stores_of g (target g i) (mark g i)) ≡ true =
    sym (rw (f, m) at (c.sets_none.ensures g q d (rw f (target_known g d.rules i h)))) ∙ c.if-sets_none.true in
    rw (move_none g i x) (put_nil _ _ (omega arith) (omega arith))

pub returns : goal.returns
returns c g q d e h =
    let t = given c.args.t.now in
    let i = c.args.i in
    let f = c.target-target.ensures ∙ sym (target_same g t e i) in
    let m = c.mark-mark.ensures ∙ sym (mark_same g t e i) in
    let s = c.source.ensures ∙ sym (source_same g t e i) in
    let x : is_nil (stores_of g (target g i) (mark g i)) ≡ false =
    sym (rw (f, m) at (c.sets_none.ensures g q d (rw f (target_known g d.rules i h)))) ∙ c.if-sets_none.false in
    let ts = state_tests g (source g i) ++ literal_tests g i in
    rw (move_lines g i x)
    (put_lines (chain_of (chain ts)) (stores_of g (target g i) (mark g i))
    (chain_put ts
    (sent_sent (rw (s, state_tests_lem g (source g i)) at (c.put_state-p.ensures g q d (rw s (source_known g d.rules i h)))) (c.put_literals-q.ensures g e))
    c.put_true-next.ensures)
    (rw (f, m) at (c.put_stores.ensures g q d (rw f (target_known g d.rules i h)))))
