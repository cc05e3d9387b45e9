-- The rows before i are for n.
use mathlib.Core.Path.{◌≡◌}
use Prim.Native.Nat.{ℕ, ◌≤◌, ◌<◌}
use Rattle.meaning.specs.Tables.{pair_number}
use Rattle.write_bodies.proofs.run_end.Given as goal

abbrev pub invariant-loop-i : goal.invariant-loop-i
invariant-loop-i l = (j : ℕ) → l.row ≤ j → j < l.i → pair_number l.pairs j ≡ l.n
