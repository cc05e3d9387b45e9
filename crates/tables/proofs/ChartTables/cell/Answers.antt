-- By what the definition says.
use Rattle.std.proofs.Common.{rules}
use Rattle.meaning.specs.Tables.{cell}
use Rattle.tables.proofs.ChartTables.cell.Goals as goal

pub returns : goal.returns
unfolding cell
returns c = search rules
