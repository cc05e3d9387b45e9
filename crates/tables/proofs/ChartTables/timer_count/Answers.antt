-- By what the definition says.
use Rattle.std.proofs.Common.{refl}
use Rattle.meaning.specs.Tables.{timer_count}
use Rattle.tables.proofs.ChartTables.timer_count.Goals as goal

pub returns : goal.returns
unfolding timer_count
returns c = refl
