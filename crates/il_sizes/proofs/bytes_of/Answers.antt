-- The words whose two numbers tell it at once.
use Rattle.std.proofs.Common.{◌≡◌, ◌/◌, ◌%◌, arith}
use Rattle.il_sizes.specs.Bytes.{bytes_tested, bytes_stored, bytes_bracket}
use Rattle.format.specs.Decode.{decoded}
use Rattle.il_sizes.proofs.bytes_of.Goals as goal

pub returns-in-1-to-4 : goal.returns-in-1-to-4
unfolding decoded
returns-in-1-to-4 c =
    let w = c.args.w in
    omega (arith, bytes_tested (w / 134217728) (w % 134217728) (omega arith) (omega arith) (omega arith))

pub returns-in-5-to-6 : goal.returns-in-5-to-6
unfolding decoded
returns-in-5-to-6 c =
    let w = c.args.w in
    let m : w % 134217728 ≡ 0 = omega arith in
    rw m (bytes_bracket (w / 134217728) (omega arith) (omega arith))

pub returns-in-7-to-9 : goal.returns-in-7-to-9
unfolding decoded
returns-in-7-to-9 c =
    let w = c.args.w in
    omega (arith, bytes_stored (w / 134217728) (w % 134217728) (omega arith) (omega arith) (omega arith))
