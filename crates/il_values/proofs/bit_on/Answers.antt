-- A word has no bit past the 64th.
use Rattle.std.proofs.Common.{arith, sym, ◌∙◌, le-ltb}
use lib.Pow.{pow_mono}
use native.Mathlib.Nat.{lt_of_lt_of_le}
use Rattle.il_values.specs.Bits.{bit_far}
use Rattle.il_values.proofs.bit_on.Goals as goal

pub returns-else-k-lt64 : goal.returns-else-k-lt64
returns-else-k-lt64 c =
    let k = c.args.k in
    le-ltb k 64 (omega arith) ∙ sym (bit_far c.args.w k (lt_of_lt_of_le c.ranges.w.fits (pow_mono {i = 64} {j = k} (omega arith))))
