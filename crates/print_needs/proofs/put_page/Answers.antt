-- By the verdict.
use Rattle.std.proofs.Common.{◌∙◌}
use Rattle.format.specs.Text.{line}
use Rattle.format.specs.NeedsTable.{needs_page}
use Rattle.write_lines.specs.Put.{put_put}
use Rattle.check_witness.specs.Passed.{accepted_passed}
use Rattle.print_needs.proofs.put_page.Goals as goal

pub returns-in-Ok : goal.returns-in-Ok
unfolding needs_page line
returns-in-Ok c s e =
    let told = c.in-Ok.is in
    rw told (put_put (c.put_table-p.ensures (accepted_passed _ (e ∙ told)).literals) c.put_bytes.ensures)

pub returns-in-Err : goal.returns-in-Err
returns-in-Err c s e =
    let said = c.in-Err.is in
    rw said (c.put_refused.ensures s (e ∙ said))
