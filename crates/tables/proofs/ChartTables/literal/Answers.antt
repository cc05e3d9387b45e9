-- By what the definition says.
use Rattle.std.proofs.Common.{rules}
use Rattle.meaning.specs.Tables.{literal}
use Rattle.tables.proofs.ChartTables.literal.Goals as goal

pub returns : goal.returns
unfolding literal
returns c = search rules
