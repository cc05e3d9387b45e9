-- After i moves their lines stand below the line of names.
use mathlib.Core.List.{flat_map}
use Rattle.meaning.specs.Rows.{table}
use Rattle.format.specs.NeedsTable.{needs_line}
use Rattle.write_lines.specs.Put.{BytesPut}
use Rattle.check_literals.specs.Places.{LiteralsPass}
use Rattle.tables.specs.Given.{given}
use Rattle.print_needs.proofs.put_table.Given as goal

abbrev pub invariant-loop-i : goal.invariant-loop-i
invariant-loop-i l =
    LiteralsPass (given l.t) → BytesPut l.initial.out l.initial.p (flat_map (needs_line (given l.t)) (table (λ k. k) 0 l.i)) l.out l.p
