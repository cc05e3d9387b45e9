-- By what the definition says.
use Rattle.std.proofs.Common.{refl}
use Rattle.meaning.specs.Tables.{state_count}
use Rattle.tables.proofs.ChartTables.state_count.Goals as goal

pub returns : goal.returns
unfolding state_count
returns c = refl
