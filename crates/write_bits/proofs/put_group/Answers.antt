-- Where the rules hold, a and s are states of a chart, and the layout has the group of a and the code of s.
use Rattle.write_bits.specs.GroupLaws.{group_is}
use Rattle.write_bits.proofs.put_group.Goals as goal

pub returns : goal.returns
returns c c' o R h =
    let a = c.args in
    let b = c.base.ensures in
    let g = group_is c' _ o R a.a a.s h a.spot.way in
    rw (b, g.1) at (c.put_bits.ensures (rw b g.0))
