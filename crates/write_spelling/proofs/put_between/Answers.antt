-- The three parts in a row.
use Rattle.write_lines.specs.Fit.{fit_fit, put_fit}
use Rattle.write_spelling.proofs.put_between.Goals as goal

pub returns : goal.returns
returns c = fit_fit c.put_part-p.ensures (fit_fit (put_fit c.put_decimal-q.ensures) c.put_part.ensures)
