-- Where LITERAL passes, the words are the sets of the move.
use Rattle.std.proofs.Common.{◌∙◌, true≢false, sym, refl}
use Prim.Native.Nat.{ℕ}
use Rattle.meaning.specs.Needs.{needs_on, needs_off}
use Rattle.tables.specs.Given.{given}
use Rattle.write_lines.specs.Put.{put_put}
use Rattle.print_needs.specs.Lines.{needs_line_lem}
use Rattle.print_needs.proofs.put_move.Goals as goal

pub returns-in-Some : goal.returns-in-Some
returns-in-Some c e =
    let d = given c.args.t.now in
    let i : ℕ = c.args.i in
    let n = c.of.ensures in
    let w = (c.in-Some.ensures d (sym n.0) (sym n.1) refl).1 in
    rw (← needs_line_lem d i) (put_put c.put_way-p.ensures (c.put_sets.ensures (needs_on d i) (needs_off d i) w.on w.off))

pub returns-in-None : goal.returns-in-None
returns-in-None c e =
    let n = c.of.ensures in
    absurd (true≢false (sym ((c.in-None.ensures (given c.args.t.now) (sym n.0) (sym n.1) refl).0 ∙ e)))
