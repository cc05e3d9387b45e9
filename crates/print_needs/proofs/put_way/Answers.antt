-- The fields one after the other.
use Rattle.write_lines.specs.Put.{put_put}
use Rattle.print_needs.proofs.put_way.Goals as goal

pub returns : goal.returns
returns c =
    let up = rw c.source.ensures at c.put_upward-q.ensures in
    let to = rw c.target.ensures at c.put_cell.ensures in
    put_put c.put_cell-p.ensures (put_put up (put_put c.put-s.ensures to))
