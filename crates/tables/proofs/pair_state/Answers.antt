-- By what the definition says.
use Rattle.meaning.specs.Tables.{pair_state}
use Rattle.tables.proofs.pair_state.Goals as goal

pub returns : goal.returns
unfolding pair_state
returns c = c.number_of_pair.ensures
