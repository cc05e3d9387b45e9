-- By what the definition says.
use native.Mathlib.Nat.{add-zero}
use Rattle.meaning.specs.Tables.{super_state}
use Rattle.tables.proofs.ChartTables.super_state.Goals as goal

pub returns : goal.returns
unfolding super_state
returns c = rw add-zero at c.number_of_pair.ensures
