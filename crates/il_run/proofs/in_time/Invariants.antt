-- The blocks from the place on being in time is all of them being in time.
use Rattle.std.proofs.Common.{◌≡◌, drop, true}
use Rattle.il_run.specs.Row.{in_time}
use Rattle.il_run.proofs.in_time.Given as goal

abbrev pub invariant-loop-i : goal.invariant-loop-i
invariant-loop-i l = in_time l.i (drop l.i l.blocks) l.times true ≡ in_time 0 l.blocks l.times true
