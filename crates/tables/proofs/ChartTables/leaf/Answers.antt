-- A leaf is what has no sub-states.
use Rattle.std.proofs.Common.{ap}
use lib.Dec.{eqb}
use Rattle.meaning.specs.Hierarchy.{is_leaf}
use Rattle.tables.proofs.ChartTables.leaf.Goals as goal

pub returns : goal.returns
unfolding is_leaf
returns c = ap (λ n. eqb n 0) c.sub_states.ensures
