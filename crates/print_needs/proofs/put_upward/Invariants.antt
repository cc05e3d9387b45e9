-- After k levels the state and the k above it are written.
use mathlib.Core.Path.{◌≡◌}
use Rattle.meaning.specs.Hierarchy.{up}
use Rattle.tables.specs.Given.{given}
use Rattle.write_lines.specs.Put.{BytesPut}
use Rattle.print_needs.specs.Lines.{above_of}
use Rattle.print_needs.proofs.put_upward.Given as goal

abbrev pub invariant-loop-k : goal.invariant-loop-k
invariant-loop-k l =
    (l.above ≡ up (given l.t) l._k l.s) × BytesPut l.initial.out l.initial.p (above_of (given l.t) l.s l._k) l.out l.p
