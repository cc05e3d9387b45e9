-- The first k states of the path are written, none of them the root, and the next is known.
use mathlib.Core.Path.{◌≡◌}
use lib.ListN.{length}
use Rattle.meaning.specs.Tables.{Tables}
use Rattle.write_bits.specs.Sent.{Rises}
use Rattle.write_bits.proofs.rise.Given as goal

abbrev pub invariant-loop-k : goal.invariant-loop-k
invariant-loop-k l = (length l.path ≡ 10) × ((c : Tables) → c.states ≡ l.t.states.now → Rises c l.s l.path l.k l.at)
