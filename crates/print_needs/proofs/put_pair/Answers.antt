-- The word and the two numbers one after the other.
use Rattle.write_lines.specs.Put.{put_put}
use Rattle.print_needs.proofs.put_pair.Goals as goal

pub returns : goal.returns
returns c = put_put c.put_bytes-p.ensures (put_put c.put_decimal-q.ensures (put_put c.put-s.ensures c.put_cell.ensures))
