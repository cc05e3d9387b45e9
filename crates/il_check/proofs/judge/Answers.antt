-- Each answer is the one that document 01 gives at that place of the order.
use Rattle.std.proofs.Common.{refl, arith, eq-eqb, ne_eqb}
use Rattle.il_check.specs.Judged.{JudgedBy, step_in}
use Rattle.il_check.proofs.judge.Goals as goal

pub returns-in-Err : goal.returns-in-Err
returns-in-Err c = JudgedBy.text (step_in c.args.step (omega arith) (omega arith)) _ c.in-Err.ensures refl

pub returns-then-not-state_passes : goal.returns-then-not-state_passes
returns-then-not-state_passes c =
    let h = c.in-Ok.ensures in
    JudgedBy.rest (step_in c.args.step (omega arith) (omega arith)) h.program (record { program = h.fitting; list = h.listing }) c.state_passes.result (rw h.blocks c.state_passes.ensures) (rw c.if-not-state_passes.true)

pub returns-then-results-scans : goal.returns-then-results-scans
returns-then-results-scans c =
    let h = c.in-Ok.ensures in
    JudgedBy.rest (step_in c.args.step (omega arith) (omega arith)) h.program (record { program = h.fitting; list = h.listing }) c.state_passes.result (rw h.blocks c.state_passes.ensures) (rw (c.if-not-state_passes.false, ne_eqb c.args.results c.args.scans (λ e. omega arith)))

pub returns : goal.returns
returns c =
    let h = c.in-Ok.ensures in
    JudgedBy.rest (step_in c.args.step (omega arith) (omega arith)) h.program (record { program = h.fitting; list = h.listing }) c.state_passes.result (rw h.blocks c.state_passes.ensures) (rw (c.if-not-state_passes.false, eq-eqb c.args.results c.args.scans (omega arith)))
