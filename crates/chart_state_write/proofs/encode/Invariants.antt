-- The values so far stand behind the codes, as far as the slice goes.
use Rattle.std.proofs.Common.{◌≡◌, ℕ, ◌<◌, ◌+◌, ◌++◌, length, take, get_or}
use Rattle.chart_state_write.proofs.encode.Given as goal

abbrev pub invariant-loop-i : goal.invariant-loop-i
invariant-loop-i l = (k : ℕ) → k < l.from + l.i → k < length l.state → get_or l.state k 0 ≡ get_or (take l.from l.initial.state ++ l.timers) k 0
