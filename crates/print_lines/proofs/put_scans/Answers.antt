-- One line more, and at the end all of them.
use Rattle.std.proofs.Common.{◌≡◌, ◌+◌, ◌<◌, List, ℕ, arith, add-one, length}
use lib.Seq.{take_all}
use Rattle.write_lines.specs.Put.{put_put, put_none}
use Rattle.print_lines.specs.Results.{scan_lines_from, lines_more}
use Rattle.print_lines.proofs.put_scans.Goals as goal

pub loop-i-init : goal.loop-i-init
unfolding scan_lines_from
loop-i-init c = put_none _ _ (omega arith) (omega arith)

pub loop-i-preserved : goal.loop-i-preserved
loop-i-preserved c =
    let ls : List ℕ = c.args.leaves.now in
    let os : List ℕ = c.args.outputs.now in
    let h : c.loop-i.i < length ls = omega arith in
    let g : c.loop-i.i < length os = omega arith in
    let e : 1 + c.loop-i.i ≡ c.loop-i.i + 1 = omega arith in
    rw (add-one, lines_more 1 c.loop-i.i ls os h g, e) (put_put c.loop-i.invariant c.put_scan-p.ensures)

pub returns : goal.returns
returns c = λ e. rw (take_all c.loop-i.i c.args.leaves.now (omega (arith, e)), take_all c.loop-i.i c.args.outputs.now (omega (arith, e))) at c.loop-i.invariant
