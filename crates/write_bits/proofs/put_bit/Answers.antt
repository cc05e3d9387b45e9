-- The operator, and the rest of the line on a flip-flop whose number 16 bits hold.
use mathlib.Core.Path.{◌≡◌}
use Rattle.meaning.specs.declared.Operand.TheVariants.{Mx}
use Rattle.write_bits.specs.Sent.{way_after}
use Rattle.write_bits.specs.SentLaws.{one_put}
use native.Mathlib.Omega.{arith}
use Prim.Native.Nat.{◌%◌}
use Rattle.write_bits.proofs.put_bit.Goals as goal

pub returns : goal.returns
unfolding way_after
returns c h =
    let a = c.args in
    let p = c.put_operator-p.ensures in
    let e : a.n % 65536 ≡ a.n = omega arith in
    record { put = one_put a.spot.way a.wanted (Mx a.n) p.0 (rw e at c.put_mx.ensures); way = p.1 }
