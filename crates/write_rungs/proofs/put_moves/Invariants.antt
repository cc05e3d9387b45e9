-- The rungs of the first i moves are written.
use mathlib.Core.Path.{◌≡◌}
use Rattle.meaning.specs.Tables.{Tables}
use Rattle.write_lines.specs.Fit.{PutIfRoom}
use Rattle.write_bits.specs.Sent.{lines, LaidTables}
use Rattle.write_rungs.specs.Sections.{moves_to}
use Rattle.write_rungs.proofs.put_moves.Given as goal

abbrev pub invariant-loop-i : goal.invariant-loop-i
invariant-loop-i l =
    (c : Tables) → c.states ≡ l.t.states.now → LaidTables c l.layout → c.moves ≡ l.t.moves.now
    → PutIfRoom l.initial.out l.at (lines (moves_to c l.i)) l.out l.p
