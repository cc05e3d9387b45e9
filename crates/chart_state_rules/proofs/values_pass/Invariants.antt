-- The values so far pass.
use Rattle.std.proofs.Common.{◌≡◌, true, ℕ, ◌≤◌, ◌<◌}
use Rattle.tables.specs.Given.{given}
use Rattle.chart_state_rules.specs.Values.{row_passes}
use Rattle.chart_state_rules.proofs.values_pass.Given as goal

abbrev pub invariant-loop-i : goal.invariant-loop-i
invariant-loop-i l =
    let d = given l.t in 1 ≤ d.scan_step → (k : ℕ) → k < l.i → row_passes d.scan_step d.presets l.running l.timers k ≡ true
