-- What is measured first, over no byte, is written where there is room for it.
use mathlib.Core.Path.{sym}
use native.Mathlib.Omega.{arith}
use Rattle.meaning.proofs.Laws.Rows.{no_length}
use Rattle.format.specs.Printed.{chart_text}
use Rattle.layout.specs.SameLaws.{laid_out_same}
use Rattle.tables.specs.Given.{given}
use Rattle.write_lines.specs.WroteLaws.{refuses, writes}
use Rattle.write_text.proofs.write_checked.Goals as goal

pub returns-then-out-n : goal.returns-then-out-n
returns-then-out-n c g r =
    let o = laid_out_same (given c.args.t.now) g (sym r.lent.states) c.lay_out-layout.result c.lay_out-layout.ensures in
    let p = c.put_text-n.ensures g r o in
    refuses (chart_text g) c.args.out.now _ _ (rw (no_length _ p.long) at p) (omega arith)

pub returns : goal.returns
returns c g r =
    let o = laid_out_same (given c.args.t.now) g (sym r.lent.states) c.lay_out-layout.result c.lay_out-layout.ensures in
    let p = c.put_text-n.ensures g r o in
    writes (chart_text g) c.args.out.now _ _ (rw (no_length _ p.long) at p) (omega arith) (omega (arith, c.if-out-n.false)) (c.put_text.ensures g r o)
