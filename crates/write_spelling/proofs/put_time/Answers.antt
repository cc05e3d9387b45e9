-- The line by its parts, with the LF in the last.
use mathlib.Core.List.{append_assoc}
use Rattle.format.specs.Text.{line, operator_text}
use Rattle.write_spelling.proofs.put_time.Goals as goal

pub returns : goal.returns
unfolding line operator_text
returns c = simp append_assoc (rw c.from.ensures at c.put_between.ensures)
