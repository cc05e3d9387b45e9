-- The timers below i have grown, and those from i on are as they were.
use Rattle.std.proofs.Common.{◌≡◌, ℕ, suc, ◌≤◌, ◌<◌, get_or, length}
use Rattle.meaning.specs.Literals.{input_on}
use Rattle.tables.specs.Given.{given}
use Rattle.chart_timers.specs.Times.{value_grown}
use Rattle.chart_timers.proofs.time.Given as goal

abbrev pub invariant-loop-i : goal.invariant-loop-i
invariant-loop-i l = ((j : ℕ) → j < l.i → j < length l.initial.timers
    → get_or l.timers j 0 ≡ value_grown (given l.t).scan_step (get_or l.most j 0) (input_on l.goes_on (suc j)) (get_or l.initial.timers j 0))
    × ((j : ℕ) → l.i ≤ j → get_or l.timers j 0 ≡ get_or l.initial.timers j 0)
