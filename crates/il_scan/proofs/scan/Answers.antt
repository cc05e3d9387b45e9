-- A word that calls a block or one that runs by itself, and that no word is left in the end.
use Rattle.std.proofs.Common.{ap, sym, ◌∙◌, arith}
use Rattle.il_values.specs.Value.{with_bit}
use Rattle.il_scan.specs.Run.{ScanPoint, calling}
use Rattle.il_scan.specs.Row.{scan_of}
use Rattle.il_scan.specs.RowLaws.{scan_called, scan_ran, scan_end}
use Rattle.il_scan.proofs.scan.Goals as goal
use Rattle.il_scan.proofs.scan.Goals.{in-Some, in-None}

pub loop-w-init : goal.loop-w-init
unfolding scan_of
loop-w-init c = rw (c.first_registers-s.ensures, c.q_word.ensures)

pub loop-w-preserved : goal.loop-w-preserved
unfolding calling
loop-w-preserved c =
    let a = c.args in
    let l = c.loop-w in
    let p : ScanPoint = record { s = l.s; flip_flops = l.flip_flops; bs = l.blocks } in
    elim c.match-instruction_due.branch [
      | in-Some w ↦ rw (w.flip_flops-is, w.blocks-is, w.s-is, w.call-q.ensures.0, w.with_bit.ensures ∙ ap (with_bit l.s.qs w.in-Some.k) w.call-q.ensures.1)
          (sym (scan_called a.step a.x a.words.now l.w-index p _ (omega arith) (rw c.decode-i.ensures at w.in-Some.ensures.block) w.in-Some.ensures.within) ∙ l.invariant)
      | in-None w ↦ rw (w.flip_flops-is, w.blocks-is, w.s-is, w.run_instruction-s.ensures.0, w.run_instruction-s.ensures.1, c.decode-i.ensures)
          (sym (scan_ran a.step a.x a.words.now l.w-index p (omega arith) (rw c.decode-i.ensures at w.in-None.ensures.block)) ∙ l.invariant)
    ]

pub returns : goal.returns
returns c =
    let a = c.args in
    let l = c.loop-w in
    let e = sym (scan_end a.step a.x a.words.now l.w-index (record { s = l.s; flip_flops = l.flip_flops; bs = l.blocks }) (omega arith)) ∙ l.invariant in
    record {
      flip_flops = ap (λ (z : ScanPoint). z.flip_flops) e;
      blocks = ap (λ (z : ScanPoint). z.bs) e;
      outputs = ap (λ (z : ScanPoint). z.s.outputs) e;
    }
