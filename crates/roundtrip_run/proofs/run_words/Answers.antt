-- The flip-flops that the program uses are the front of the cleared bytes.
use Rattle.meaning.specs.Layout.{flip_flop_count}
use Rattle.roundtrip_run.specs.Going.{part_cleared}
use native.Mathlib.Omega.{arith}
use mathlib.Core.Path.{sym}
use lib.ListN.{length-take, length-replicate}
use Rattle.layout.specs.LaidLaws.{total_is}
use Rattle.layout.specs.SameLaws.{laid_out_same}
use Rattle.tables.specs.Given.{given}
use Rattle.roundtrip_run.proofs.run_words.Goals as goal

pub returns-then-layout-gt-FLIP_FLOPS : goal.returns-then-layout-gt-FLIP_FLOPS
returns-then-layout-gt-FLIP_FLOPS c c' d e R f p q =
    let o = laid_out_same (given c.args.t.now) c' (sym e) _ c.lay_out-layout.ensures in
    absurd (omega (arith, R.flip_flop.few, total_is c' _ o R.size.few_states))

pub slice_bounds-run_scans-end : goal.slice_bounds-run_scans-end
slice_bounds-run_scans-end c = simp (length-take, length-replicate) (omega arith)

pub returns : goal.returns
returns c c' d e R f p q =
    let o = laid_out_same (given c.args.t.now) c' (sym e) _ c.lay_out-layout.ensures in
    c.run_scans.ensures c' d e
    (record { rules = R; laid = o; list = f; clear = part_cleared _ (flip_flop_count c') (total_is c' _ o R.size.few_states) R.flip_flop.few }) p q
