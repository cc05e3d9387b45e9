-- By what the definition says.
use native.Mathlib.Nat.{add-zero}
use Rattle.meaning.specs.Tables.{pair_number}
use Rattle.tables.proofs.pair_number.Goals as goal

pub returns : goal.returns
unfolding pair_number
returns c = rw add-zero at c.number_of_pair.ensures
