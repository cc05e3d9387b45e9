-- The rungs of the first timers are written, and the pairs of the next start at the cursor.
use mathlib.Core.Path.{◌≡◌}
use Prim.Native.Nat.{suc}
use Rattle.meaning.specs.Tables.{Tables}
use Rattle.write_lines.specs.Fit.{PutIfRoom}
use Rattle.write_bits.specs.Sent.{lines, LaidTables}
use Rattle.write_bodies.specs.Pairs.{Reaches}
use Rattle.write_rungs.specs.Sections.{timers_to}
use Rattle.write_rungs.proofs.put_timers.Given as goal

abbrev pub invariant-loop-i : goal.invariant-loop-i
invariant-loop-i l =
    (c : Tables) → c.states ≡ l.t.states.now → LaidTables c l.layout
    → c.presets ≡ l.t.presets.now → c.timer_pairs ≡ l.t.timer_pairs.now
    → Reaches l.t.timer_pairs.now (suc l.i) l.cursor.row
    × PutIfRoom l.initial.out l.at (lines (timers_to c l.i)) l.out l.cursor.at
