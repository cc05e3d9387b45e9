-- The least failing row is told; where none fails the check passes.
use Rattle.std.proofs.Common.{sym, ap, ◌∙◌, arith, true, Err}
use Rattle.check_tables.specs.Verdicts.{fails_at, all_pass}
use Rattle.check_tables.proofs.judge.Goals as goal

pub returns-then-not-passes : goal.returns-then-not-passes
returns-then-not-passes g c k e p r =
    let b = c.loop-i in
    let fails = sym (p b.i c.loop-i-test.true c.passes.result c.passes.ensures) ∙ c.if-not-passes.true in
    ap Err (r b.i c.loop-i-test.true c.refusal.result c.refusal.ensures)
    ∙ sym (fails_at k b.i (omega (arith, e)) (λ j h. sym (p j (omega arith) true (b.invariant j h))) fails)

pub returns : goal.returns
returns g c k e p r = sym (all_pass k (λ j h. sym (p j (omega (arith, e)) true (c.loop-i.invariant j (omega (arith, e))))))
