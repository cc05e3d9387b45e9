-- From j on the first one without a clash is the one that was looked for, and j ends at the larger of the two bounds.
use mathlib.Core.Path.{◌≡◌}
use Prim.Native.Nat.{◌≤◌, max}
use Rattle.check_needs.specs.Words.{first_apart}
use Rattle.check_needs.proofs.first_apart.Given as goal

abbrev pub invariant-loop-j : goal.invariant-loop-j
invariant-loop-j l = record {
  within : l.j ≤ max l.from l.known;
  same : first_apart l.words l.a l.from l.to ≡ first_apart l.words l.a l.j l.to;
}
