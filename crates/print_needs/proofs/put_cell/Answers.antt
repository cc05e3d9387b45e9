-- A decimal, then a comma.
use Rattle.write_lines.specs.Put.{put_put}
use Rattle.print_needs.proofs.put_cell.Goals as goal

pub returns : goal.returns
returns c = put_put c.put_decimal-p.ensures c.put.ensures
