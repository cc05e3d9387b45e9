-- The text, then the lines.
use Rattle.write_lines.specs.Put.{put_put}
use Rattle.print_lines.proofs.put_run.Goals as goal

pub returns : goal.returns
returns c = λ e. put_put c.put_bytes-at.ensures (c.put_scans.ensures e)
