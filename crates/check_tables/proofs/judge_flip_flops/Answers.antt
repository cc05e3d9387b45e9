-- One row, which the layout decides.
use native.Mathlib.Omega.{arith}
use mathlib.Core.Path.{sym, ◌∙◌}
use Rattle.tables.specs.Given.{given}
use Rattle.check_tables.specs.Verdicts.{flip_flop_check, fails_at, all_pass}
use Rattle.check_tables.proofs.judge_flip_flops.Goals as goal

pub returns-then-flip_flops_pass : goal.returns-then-flip_flops_pass
returns-then-flip_flops_pass c s = sym (all_pass (flip_flop_check (given c.args.t.now)) (λ j h. sym (c.flip_flops_pass.ensures s.tree.few) ∙ c.if-flip_flops_pass.true))

pub returns-else-flip_flops_pass : goal.returns-else-flip_flops_pass
returns-else-flip_flops_pass c s =
    sym (fails_at (flip_flop_check (given c.args.t.now)) 0 (omega arith) (λ j h. absurd (omega arith)) (sym (c.flip_flops_pass.ensures s.tree.few) ∙ c.if-flip_flops_pass.false))
