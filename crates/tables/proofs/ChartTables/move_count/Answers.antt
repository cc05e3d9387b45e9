-- By what the definition says.
use Rattle.std.proofs.Common.{refl}
use Rattle.meaning.specs.Tables.{move_count}
use Rattle.tables.proofs.ChartTables.move_count.Goals as goal

pub returns : goal.returns
unfolding move_count
returns c = refl
