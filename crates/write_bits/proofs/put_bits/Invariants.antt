-- The first i bits are written, and k is what is left of the code.
use mathlib.Core.Path.{◌≡◌}
use Prim.Native.Nat.{◌+◌, ◌/◌, ◌^◌, ◌≤◌}
use Rattle.meaning.specs.Written.{bits_from}
use Rattle.write_bits.specs.Sent.{TestsPut, bit_at}
use Rattle.write_bits.proofs.put_bits.Given as goal

abbrev pub invariant-loop-i : goal.invariant-loop-i
invariant-loop-i l =
    (l.k ≡ l.code / 2 ^ l.i)
    × (l.base + (l.first + l.width) ≤ 65536 → TestsPut l.initial.out l.initial.p (bits_from (bit_at l.base) l.first l.i l.code) l.out l.p)
