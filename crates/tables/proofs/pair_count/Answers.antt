-- By what the definition says.
use Rattle.std.proofs.Common.{refl}
use Rattle.meaning.specs.Tables.{pair_count}
use Rattle.tables.proofs.pair_count.Goals as goal

pub returns : goal.returns
unfolding pair_count
returns c = refl
