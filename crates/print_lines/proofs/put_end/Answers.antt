-- The five parts one after the other.
use Rattle.write_lines.specs.Put.{put_put}
use Rattle.print_lines.proofs.put_end.Goals as goal

pub returns : goal.returns
returns c = put_put c.put-at.ensures (put_put c.put_decimal-at.ensures (put_put c.put-at-2.ensures (put_put c.put_decimal-at-2.ensures c.put.ensures)))
