-- The scan, then the rest of the line.
use Rattle.write_lines.specs.Put.{put_put}
use Rattle.print_lines.proofs.put_scan.Goals as goal

pub returns : goal.returns
returns c = rw (← c.from.ensures) (put_put c.put_decimal-at.ensures c.put_end.ensures)
