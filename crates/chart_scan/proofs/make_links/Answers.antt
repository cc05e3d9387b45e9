-- One move more is linked, as its source is a state; an accepted chart has no more moves than there may be.
use Rattle.std.proofs.Common.{◌≡◌, arith, add-one}
use Rattle.meaning.specs.Tables.{move_count}
use Rattle.tables.specs.Given.{given}
use Rattle.tables.specs.Same.{move_count_same, source_same}
use Rattle.chart_scan.specs.Choice.{last_from}
use Rattle.chart_scan.specs.LinkLaws.{source_known, linked_more}
use Rattle.chart_scan.proofs.make_links.Goals as goal

pub loop-i-init : goal.loop-i-init
unfolding last_from
loop-i-init c c' e R long zero = (λ s h. zero s, λ k h. absurd (omega arith))

pub loop-i-preserved : goal.loop-i-preserved
loop-i-preserved c c' e R long zero =
    let b = c.loop-i in
    let g = given c.args.t.now in
    let s = source_same c' g e b.i in
    let k = source_known c' R b.i (omega (arith, c.move_count.ensures, move_count_same c' g e)) in
    rw (add-one, c.link.ensures (rw (← s) k) (omega arith), ← s) (linked_more c' b.i b.links (omega arith) (omega arith) k (b.invariant c' e R long zero))

pub returns : goal.returns
returns c c' e R long zero =
    let b = c.loop-i in
    let z : b.i ≡ move_count c' = omega (arith, c.move_count.ensures, move_count_same c' (given c.args.t.now) e, R.size.few_moves) in
    rw z at (b.invariant c' e R long zero)
