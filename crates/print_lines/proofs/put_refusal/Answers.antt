-- The word, then the rest of the line.
use Rattle.write_lines.specs.Put.{put_put}
use Rattle.print_lines.specs.Results.{refusal_parts}
use Rattle.print_lines.proofs.put_refusal.Goals as goal

pub returns : goal.returns
returns c = rw (refusal_parts c.args.r, ← c.number.ensures, ← c.place.ensures) (put_put c.put_bytes-at.ensures c.put_end.ensures)
