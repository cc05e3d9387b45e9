-- The scans so far are those on the first i words, and l is the active leaf.
use Rattle.std.proofs.Common.{◌≡◌, ◌≤◌, length, take}
use Rattle.meaning.specs.Tables.{Tables, state_count}
use Rattle.meaning.specs.Rules.{Rules}
use Rattle.meaning.specs.Machine.{active_leaf, Valid}
use Rattle.check_pairing.specs.Words.{PairedWords}
use Rattle.chart_scan.specs.Held.{StateScanned, held}
use Rattle.chart_scan.specs.Making.{MadeFor}
use Rattle.chart_scan.proofs.run_made.Given as goal

abbrev pub invariant-loop-i : goal.invariant-loop-i
invariant-loop-i l = (c : Tables) → c.scan_step ≡ l.t.chart.step → c.states ≡ l.t.states.now → c.moves ≡ l.t.moves.now → c.presets ≡ l.t.presets.now
    → Rules c → MadeFor c l.made → PairedWords c c.output_pairs l.shows
    → state_count c ≤ length l.initial.memory → length l.initial.timers ≡ 32 → Valid c (held c l.initial.memory l.initial.timers)
    → length l.initial.leaves ≡ length l.inputs → length l.initial.outputs ≡ length l.inputs
    → StateScanned c (held c l.initial.memory l.initial.timers) (take l.i l.inputs) (held c l.memory l.timers) (take l.i l.leaves) (take l.i l.outputs)
    × (l.l ≡ active_leaf c (take (state_count c) l.memory))
