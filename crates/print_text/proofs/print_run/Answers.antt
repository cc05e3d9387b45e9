-- The run's answer is the verdict after FIELD: of a refusal its line is printed, and else the text that was written and its scans.
use mathlib.Core.Path.{refl, sym}
use lib.Seq.{length-take-le}
use Rattle.print_text.specs.Ran.{ran_refused, ran_wrote, text_fits, same_lengths, text_printed}
use Rattle.print_text.specs.Print.{printed_of}
use Rattle.print_text.proofs.print_run.Goals as goal

pub slice_bounds-put_run-end : goal.slice_bounds-put_run-end
slice_bounds-put_run-end c = let r = ran_wrote _ _ _ _ _ _ c.requires.text c.requires.words c.requires.leaves c.requires.outputs _ _ _ _ _ _ c.run_written.ensures c.in-Ok.is in
    text_fits _ _ _ _ _ _ r

pub slice_bounds-put_run-end-in-Ok : goal.slice_bounds-put_run-end-in-Ok
slice_bounds-put_run-end-in-Ok c = let r = ran_wrote _ _ _ _ _ _ c.requires.text c.requires.words c.requires.leaves c.requires.outputs _ _ _ _ _ _ c.run_written.ensures c.in-Ok.is in
    sym (length-take-le _ _ (text_fits _ _ _ _ _ _ r))

pub returns-in-Err : goal.returns-in-Err
returns-in-Err c = let q = ran_refused _ _ _ _ _ _ c.requires.text c.requires.words c.requires.leaves c.requires.outputs _ _ _ _ _ _ c.run_written.ensures c.in-Err.is in
    unfold printed_of in (rw q c.print_refusal.ensures)

pub returns-in-Ok : goal.returns-in-Ok
returns-in-Ok c = let r = ran_wrote _ _ _ _ _ _ c.requires.text c.requires.words c.requires.leaves c.requires.outputs _ _ _ _ _ _ c.run_written.ensures c.in-Ok.is in
    text_printed _ _ _ _ _ _ r _ _ _ (record { why = refl; written = c.put_run.ensures (same_lengths _ _ _ _ _ _ r) })
