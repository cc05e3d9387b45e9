-- By what the definition says.
use Rattle.meaning.specs.Tables.{target}
use Rattle.tables.proofs.ChartTables.target.Goals as goal

pub returns : goal.returns
unfolding target
returns c = c.size.ensures
