-- By which refusal it is: its line alone, below the table, or below the table and the pair.
use Rattle.std.proofs.Common.{◌≡◌, ◌∙◌, arith, ap, refl, ℕ, Err}
use Rattle.meaning.specs.declared.Refusal.TheVariants as R
use Rattle.meaning.specs.Needs.{both_on, both_off}
use Rattle.meaning.specs.Check.{earlier, verdict}
use Rattle.tables.specs.Given.{given}
use Rattle.write_lines.specs.Put.{put_put}
use Rattle.print_needs.specs.Lines.{overlap_line_lem}
use Rattle.print_needs.specs.Page.{page_other, page_known, without_pair, page_overlap, overlap_shown}
use Rattle.check_witness.specs.Passed.{refused_passed}
use Rattle.print_needs.proofs.put_refused.Goals as goal

pub returns-in_default : goal.returns-in_default
returns-in_default c w e =
    let n = c.in_default in
    rw (← page_other (given c.args.t.now) c.args.r n.not-IdleTimer n.not-Overlap n.not-FlipFlops) c.put_refusal-in_default.ensures

pub returns-in-IdleTimer : goal.returns-in-IdleTimer
returns-in-IdleTimer c s e =
    let r = c.args.r in
    let d = given c.args.t.now in
    let n = without_pair r c.in-IdleTimer.is in
    rw (← page_known d r n.0 n.1 n.2) (put_put (c.put_table-p.ensures (refused_passed d r e n.0).literals) c.put_refusal.ensures)

pub returns-in-Overlap : goal.returns-in-Overlap
returns-in-Overlap c s e =
    let r = c.args.r in
    let d = given c.args.t.now in
    let i : ℕ = c.in-Overlap.later in
    let v : verdict d ≡ Err (R.Overlap i) = e ∙ ap Err c.in-Overlap.is in
    let o = overlap_shown d c.args.w.now (R.Overlap i) s v refl in
    let q = rw (o.earlier, o.state) at (c.put_overlap-q.ensures (both_on d (earlier d i) i) (both_off d (earlier d i) i) o.on o.off) in
    rw (c.in-Overlap.is, ← page_overlap d (R.Overlap i) refl, ← overlap_line_lem d i)
    (put_put (c.put_table-p-in-Overlap.ensures (refused_passed d (R.Overlap i) v (omega arith)).literals) (put_put q c.put_refusal-in-Overlap.ensures))
