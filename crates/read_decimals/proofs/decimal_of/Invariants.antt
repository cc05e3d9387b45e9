-- The bytes so far spell n, and where there are several, n is not 0 behind the first.
use mathlib.Core.Logic.{◌≢◌}
use Prim.Native.Nat.{◌≤◌, ◌<◌}
use lib.ListN.{length, get_or}
use Rattle.read_decimals.specs.Spelling.{Spelling}
use Rattle.read_decimals.proofs.decimal_of.Given as goal

abbrev pub invariant-loop-b : goal.invariant-loop-b
invariant-loop-b l = record {
  small : l.n ≤ l.high;
  spelling : Spelling l.s l.b-index l.n;
  positive : 0 < l.b-index → 1 < length l.s → 1 ≤ l.n;
  no_zero : 1 < length l.s → get_or l.s 0 0 ≢ 48;
}
