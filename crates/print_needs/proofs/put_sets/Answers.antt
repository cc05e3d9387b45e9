-- The two sets one after the other.
use Rattle.write_lines.specs.Put.{put_put}
use Rattle.print_needs.proofs.put_sets.Goals as goal

pub returns : goal.returns
returns c A B on off = put_put (c.put_things-p.ensures A on) (put_put c.put-q.ensures (put_put (c.put_things-s.ensures B off) c.put.ensures))
