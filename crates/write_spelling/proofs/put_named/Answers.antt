-- The two parts in a row.
use Rattle.write_lines.specs.Fit.{fit_fit}
use Rattle.write_spelling.proofs.put_named.Goals as goal

pub returns : goal.returns
returns c = fit_fit c.put_name-p.ensures c.put_part.ensures
