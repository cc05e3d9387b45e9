-- The digits from i on take the number, which is not 0, to where those from the first on do.
use Rattle.std.proofs.Common.{◌≡◌, ◌<◌, drop}
use Rattle.csv_bare.specs.Bare.{digits_from}
use Rattle.csv_bare.proofs.digits.Given as goal

abbrev pub invariant-loop-i : goal.invariant-loop-i
invariant-loop-i l = (0 < l.n) × (digits_from l.limit (drop l.i l.bytes) l.i l.n ≡ digits_from l.limit (drop l.from l.bytes) l.from l.first)
