-- By what the definition says.
use Rattle.meaning.specs.Tables.{source}
use Rattle.tables.proofs.ChartTables.source.Goals as goal

pub returns : goal.returns
unfolding source
returns c = c.size.ensures
