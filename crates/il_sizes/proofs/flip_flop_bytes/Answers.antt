-- One word more, and that none is left in the end.
use Rattle.std.proofs.Common.{arith}
use Rattle.il_sizes.specs.Bytes.{bytes_on, bytes_end}
use Rattle.il_sizes.proofs.flip_flop_bytes.Goals as goal

pub loop-w-preserved : goal.loop-w-preserved
loop-w-preserved c =
    let l = c.loop-w in
    omega (arith, c.bytes_of.ensures, c.max-most.ensures, bytes_on c.args.words.now l.w-index (omega arith), l.invariant)

pub returns : goal.returns
returns c =
    let l = c.loop-w in
    omega (arith, l.invariant, bytes_end c.args.words.now l.w-index (omega arith))
