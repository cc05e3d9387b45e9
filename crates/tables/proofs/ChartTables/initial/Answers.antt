-- By what the definition says.
use Rattle.meaning.specs.Tables.{initial}
use Rattle.tables.proofs.ChartTables.initial.Goals as goal

pub returns : goal.returns
unfolding initial
returns c = c.number_of_pair.ensures
