-- The first j literal places are written.
use mathlib.Core.Path.{◌≡◌}
use Rattle.meaning.specs.Tables.{Tables}
use Rattle.write_bits.specs.Sent.{TestsPut, literals_to}
use Rattle.write_bits.proofs.put_literals.Given as goal

abbrev pub invariant-loop-j : goal.invariant-loop-j
invariant-loop-j l =
    (c : Tables) → c.moves ≡ l.t.moves.now → TestsPut l.initial.out l.initial.p (literals_to c l.i l.j) l.out l.p
