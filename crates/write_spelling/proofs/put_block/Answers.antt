-- The line by its parts, with the LF in the last.
use mathlib.Core.List.{append_assoc}
use Rattle.format.specs.Text.{line, block_line}
use Rattle.write_spelling.proofs.put_block.Goals as goal

pub returns : goal.returns
unfolding block_line line
returns c = simp append_assoc c.put_between.ensures
