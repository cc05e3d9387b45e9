-- Where the head does not stand, there is no operand behind it; where it does, it is the operand of what follows.
use Rattle.std.proofs.Common.{sym, None, Some}
use Rattle.std.proofs.lemmas.Bool.Decides.{Decides-eqb}
use Rattle.std.proofs.lemmas.Slice.Eq.{strip_prefix_is}
use Rattle.meaning.specs.Programs.{testable}
use Rattle.format.specs.Text.{operand_text}
use Rattle.read_operands.specs.NameLaws.{names_part, begins}
use Rattle.read_operands.proofs.test_after.Goals as goal

pub returns-in_err-strip_prefix : goal.returns-in_err-strip_prefix
returns-in_err-strip_prefix c =
    let a = c.args in
    rw c.from_residual.ensures (λ o f e. strip_prefix_is Decides-eqb a.s.now a.head.now None c.in_err-strip_prefix.ensures.cases (operand_text o) (sym e))

pub returns : goal.returns
returns c =
    let a = c.args in
    let x = c.in_ok-strip_prefix.field-0 in
    let k = c.in_ok-strip_prefix.ensures.cases in
    let e = strip_prefix_is Decides-eqb a.s.now a.head.now (Some x) k in
    names_part a.head.now a.s.now (testable 32) c.tested.result (begins a.head.now x.now a.s.now (sym e)).1 (rw k.1 at c.tested.ensures)
