-- The brackets of the rows before i are written.
use mathlib.Core.Path.{◌≡◌}
use Prim.Native.Nat.{◌-◌, ◌≤◌}
use Rattle.meaning.specs.Tables.{Tables}
use Rattle.write_lines.specs.Fit.{PutIfRoom}
use Rattle.write_bits.specs.Sent.{lines, LaidTables}
use Rattle.write_bodies.specs.Pairs.{Known, brackets}
use Rattle.write_bodies.proofs.put_brackets.Given as goal

abbrev pub invariant-loop-i : goal.invariant-loop-i
invariant-loop-i l =
    (l.i - l.from ≤ l.to - l.from)
    × ((c : Tables) → c.states ≡ l.t.states.now → LaidTables c l.layout → Known c l.pairs l.from l.to
    → PutIfRoom l.initial.out l.at (lines (brackets c l.pairs l.from (l.i - l.from))) l.out l.p)
