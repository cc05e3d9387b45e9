-- The rows below i were asked, and pass.
use Rattle.std.proofs.Common.{ℕ, ◌<◌, true}
use Rattle.check_tables.proofs.judge.Given as goal

abbrev pub invariant-loop-i : goal.invariant-loop-i
invariant-loop-i g l = (m : ℕ) → m < l.i → goal.P-post g l.passes m true
