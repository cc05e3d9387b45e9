-- The name's two letters and its number, in a row.
use Rattle.format.specs.Text.{line, operand_text}
use Rattle.write_lines.specs.Fit.{fit_fit}
use Rattle.write_spelling.proofs.put_mx.Goals as goal

pub returns : goal.returns
unfolding line operand_text
returns c = fit_fit c.put_part-p.ensures c.put_number.ensures
