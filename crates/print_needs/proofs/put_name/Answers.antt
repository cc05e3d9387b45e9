-- A gap, and the three parts of the name.
use Rattle.print_needs.specs.Names.{one_name}
use Rattle.write_lines.specs.Put.{put_put}
use Rattle.print_needs.proofs.put_name.Goals as goal

pub returns : goal.returns
returns c =
    let d = rw c.from.ensures at c.put_decimal-t.ensures in
    one_name {p = c.args.p} (put_put c.put_gap-q.ensures (put_put c.put_bytes-s.ensures (put_put d c.put_bytes-at.ensures)))
