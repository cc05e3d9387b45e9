-- The two parts in a row, with the LF in the second.
use mathlib.Core.List.{append_assoc}
use Rattle.format.specs.Text.{line}
use Rattle.write_lines.specs.Fit.{fit_fit}
use Rattle.write_word_lines.proofs.put_on.Goals as goal

pub returns : goal.returns
unfolding line
returns c = rw append_assoc (fit_fit c.put_part-p.ensures c.put_operand.ensures)
