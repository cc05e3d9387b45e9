-- The lengths, then the room: what is refused leaves all as it was; else the text is written, read back and run.
use mathlib.Core.Path.{sym, ap, ◌∙◌}
use mathlib.Core.Logic.{◌⊎◌, inl, inr}
use native.Mathlib.Omega.{arith}
use lib.ListN.{length-take}
use lib.Seq.{length_front}
use Rattle.std.proofs.lemmas.Result.{err_from_is_err_and}
use Rattle.roundtrip_call.specs.WrittenRan.{no_scans}
use Rattle.roundtrip_call.specs.WholeLaws.{scans_differ, write_refused, wrote_short, wrote_room, wrote_rules, wrote_front, written_done}
use Rattle.roundtrip_call.proofs.run_written.Goals as goal

-- where the leaves are as many as the inputs, the outputs are not
differ : {A B C : Type 0} → A ⊎ (C × B) → A ⊎ B
differ (inl h) = inl h
differ (inr h) = inr h.1

pub returns-in_err-check : goal.returns-in_err-check
returns-in_err-check c =
    let a = c.args in
    let p = err_from_is_err_and c.from_residual.result c.from_residual.ensures.1 in
    rw (p.1, p.2) (scans_differ _ a.inputs.now a.text.now a.words.now a.leaves.now a.outputs.now (differ c.then-leaves-inputs.either) _ (sym (ap no_scans (sym c.check.ensures ∙ c.in_err-check.was))))

pub returns-then-leaves-inputs : goal.returns-then-leaves-inputs
returns-then-leaves-inputs c =
    let a = c.args in
    scans_differ _ a.inputs.now a.text.now a.words.now a.leaves.now a.outputs.now (differ c.then-leaves-inputs.either) _ (sym (ap no_scans (sym c.check.ensures ∙ c.in_ok-check.was)))

pub slice_bounds-write-end-2 : goal.slice_bounds-write-end-2
slice_bounds-write-end-2 c = simp length-take (omega (arith, c.shorter-room.ensures))

pub slice_bounds-read_and_run-end : goal.slice_bounds-read_and_run-end
slice_bounds-read_and_run-end c =
    let a = c.args in
    let w = c.write in
    let n = wrote_short _ a.inputs.now a.text.now a.words.now a.leaves.now a.outputs.now c.if-leaves-inputs.false c.if-outputs-inputs.false _ c.shorter-room.ensures _ _ w.ensures _ c.in_ok-n.was in
    omega (arith, n, length_front a.text.now w.new.out c.shorter-room.result w.auto.out)

pub returns-in_err-n : goal.returns-in_err-n
returns-in_err-n c =
    let a = c.args in
    let p = err_from_is_err_and c.from_residual-in_err-n.result c.from_residual-in_err-n.ensures.1 in
    rw (p.1, p.2)
    (write_refused _ a.inputs.now a.text.now a.words.now a.leaves.now a.outputs.now c.if-leaves-inputs.false c.if-outputs-inputs.false _ c.shorter-room.ensures _ _ c.write.ensures _ c.in_err-n.was)

pub returns : goal.returns
returns c =
    let a = c.args in
    let p = c.if-leaves-inputs.false in
    let q = c.if-outputs-inputs.false in
    let k = c.shorter-room.ensures in
    let w = c.write.ensures in
    let e = c.in_ok-n.was in
    written_done _ a.inputs.now a.text.now a.words.now a.leaves.now a.outputs.now p q _ k _ _ w _ e _ _ _ _
    (c.read_and_run.ensures (wrote_rules _ a.inputs.now a.text.now a.words.now a.leaves.now a.outputs.now p q _ k _ _ w _ e) (wrote_front _ a.inputs.now a.text.now a.words.now a.leaves.now a.outputs.now p q _ k _ _ w _ e) (wrote_room _ a.inputs.now a.text.now a.words.now a.leaves.now a.outputs.now p q _ k _ _ w _ e) p q)
