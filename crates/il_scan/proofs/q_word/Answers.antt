-- One block more, and that none is left in the end.
use Rattle.std.proofs.Common.{sym, ◌∙◌, arith}
use Rattle.il_scan.specs.RowLaws.{q_on, q_end}
use Rattle.il_scan.proofs.q_word.Goals as goal

pub loop-i-preserved : goal.loop-i-preserved
loop-i-preserved c =
    let l = c.loop-i in
    rw c.with_q-qs.ensures (sym (q_on c.args.blocks.now l.i l.qs (omega arith)) ∙ l.invariant)

pub returns : goal.returns
returns c = let l = c.loop-i in sym (q_end c.args.blocks.now l.i l.qs (omega arith)) ∙ l.invariant
