-- The fields one after the other.
use Rattle.write_lines.specs.Put.{put_put}
use Rattle.print_needs.proofs.put_overlap.Goals as goal

pub returns : goal.returns
returns c A B on off = put_put c.put_pair-p.ensures (put_put c.put_cell-q.ensures (put_put c.put_bytes-s.ensures (c.put_sets.ensures A B on off)))
