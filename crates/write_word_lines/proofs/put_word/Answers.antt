-- The two lines without an operand, with their LF.
use Rattle.format.specs.Text.{line, operator_text}
use Rattle.write_word_lines.specs.ByNumbers.{operator_of}
use Rattle.write_word_lines.proofs.put_word.Goals as goal

pub returns-in-5 : goal.returns-in-5
unfolding operator_of operator_text line
returns-in-5 c = rw c.in-5.is c.put_part.ensures

pub returns-in-6 : goal.returns-in-6
unfolding operator_of operator_text line
returns-in-6 c = rw c.in-6.is c.put_part-in-6.ensures
