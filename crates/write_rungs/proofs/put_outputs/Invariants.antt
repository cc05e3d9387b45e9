-- The rungs of the outputs before o are written, and the pairs of o start at the cursor.
use mathlib.Core.Path.{◌≡◌}
use Prim.Native.Nat.{◌+◌, ◌-◌, ◌≤◌}
use Rattle.meaning.specs.Tables.{Tables}
use Rattle.write_lines.specs.Fit.{PutIfRoom}
use Rattle.write_bits.specs.Sent.{lines, LaidTables}
use Rattle.write_bodies.specs.Pairs.{Reaches}
use Rattle.write_rungs.specs.Sections.{outputs_to}
use Rattle.write_rungs.proofs.put_outputs.Given as goal

abbrev pub invariant-loop-o : goal.invariant-loop-o
invariant-loop-o l =
    (l.o ≤ l.t.chart.outputs + 1)
    × ((c : Tables) → c.states ≡ l.t.states.now → LaidTables c l.layout → c.output_pairs ≡ l.t.output_pairs.now
    → c.outputs ≡ l.t.chart.outputs
    → Reaches l.t.output_pairs.now l.o l.cursor.row
    × PutIfRoom l.initial.out l.at (lines (outputs_to c (l.o - 1))) l.out l.cursor.at)
