-- By what the definition says.
use Rattle.meaning.specs.Tables.{mark}
use Rattle.tables.proofs.ChartTables.mark.Goals as goal

pub returns : goal.returns
unfolding mark
returns c = c.size.ensures
