-- So far as the loop has come, each entry is that of its preset.
use Rattle.std.proofs.Common.{◌≡◌, ℕ, ◌≤◌, ◌<◌, get_or, length}
use Rattle.tables.specs.Given.{given}
use Rattle.chart_timers.specs.Times.{longest}
use Rattle.chart_timers.proofs.longest_of.Given as goal

abbrev pub invariant-loop-i : goal.invariant-loop-i
invariant-loop-i l = (length l.most ≡ 32) × (1 ≤ (given l.t).scan_step → (j : ℕ) → j < l.i
    → longest (given l.t).scan_step (get_or (given l.t).presets j 0) < 4294967296
    → get_or l.most j 0 ≡ longest (given l.t).scan_step (get_or (given l.t).presets j 0))
