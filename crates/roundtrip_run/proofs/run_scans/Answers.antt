-- One scan of the words is one step of the machine, and what is shown is what is seen after it.
use native.Mathlib.Omega.{arith}
use Rattle.roundtrip_run.specs.Going.{going_start, going_on, going_end}
use Rattle.roundtrip_run.proofs.run_scans.Goals as goal

pub loop-i-init : goal.loop-i-init
loop-i-init c c' d e g p q = going_start c' g.rules _ _ _ _ g.clear

pub loop-i-preserved : goal.loop-i-preserved
loop-i-preserved c c' d e g p q =
    let a = c.args in
    let l = c.loop-i in
    let s = c.show in
    let n = going_on c' g.rules a.inputs.now l.i a.words.now l.flip_flops _ _ _ l.leaves l.outputs a.t.now.chart.step _ d g.list (omega arith)
    (omega arith) (omega arith) (l.invariant c' d e g p q) c.scan_array-scanned.ensures in
    rw (s.ensures.1 c' e g.rules g.laid, s.ensures.0) n

pub returns : goal.returns
returns c c' d e g p q =
    let l = c.loop-i in
    going_end c' g.rules c.args.inputs.now l.i l.flip_flops _ l.leaves l.outputs (omega arith) (omega arith) (omega arith) (l.invariant c' d e g p q)
