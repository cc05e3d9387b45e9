-- The operator, and the rest of the line on an input.
use Rattle.meaning.specs.declared.Operand.TheVariants.{Ix}
use Rattle.write_bits.specs.Sent.{way_after}
use Rattle.write_bits.specs.SentLaws.{one_put}
use Rattle.write_bits.proofs.put_input.Goals as goal

pub returns : goal.returns
unfolding way_after
returns c =
    let a = c.args in
    let p = c.put_operator-p.ensures in
    record { put = one_put a.spot.way a.wanted (Ix a.n) p.0 c.put_ix.ensures; way = p.1 }
