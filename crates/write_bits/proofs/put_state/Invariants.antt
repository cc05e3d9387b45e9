-- The groups from the root down to the state k levels up from s are written.
use mathlib.Core.Path.{◌≡◌}
use Prim.Native.Nat.{◌-◌, ◌<◌}
use Rattle.meaning.specs.Tables.{Tables, state_count}
use Rattle.meaning.specs.Hierarchy.{up, depth}
use Rattle.meaning.specs.Written.{path_bits}
use Rattle.write_bits.specs.Sent.{TestsPut, bit_at, LaidTables}
use Rattle.write_operators.specs.Ways.{base_of}
use Rattle.write_bits.proofs.put_state.Given as goal

abbrev pub invariant-loop-k : goal.invariant-loop-k
invariant-loop-k l =
    (c : Tables) → c.states ≡ l.t.states.now → LaidTables c l.layout → l.s < state_count c
    → TestsPut l.initial.out l.initial.p
    (path_bits c (bit_at (base_of l.layout.total l.initial.p.way)) (depth c l.s - l.k) (up c l.k l.s)) l.out l.p
