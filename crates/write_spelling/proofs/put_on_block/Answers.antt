-- The two parts in a row.
use Rattle.write_lines.specs.Fit.{fit_fit}
use Rattle.write_spelling.proofs.put_on_block.Goals as goal

pub returns : goal.returns
returns c = fit_fit c.put_part-p.ensures c.put_named.ensures
