-- Where head or tail do not stand, there is no decimal between them; where they do, it is the decimal of the part between.
use Rattle.std.proofs.Common.{◌++◌, sym, ◌∙◌, None, Some}
use Rattle.std.proofs.lemmas.Bool.Decides.{Decides-eqb}
use Rattle.std.proofs.lemmas.Slice.Eq.{strip_prefix_is, strip_suffix_is}
use Rattle.format.specs.Text.{decimal}
use Rattle.read_decimals.specs.FormLaws.{behind, spells_between}
use Rattle.read_decimals.proofs.numbered.Goals as goal

pub returns-in_err-strip_prefix : goal.returns-in_err-strip_prefix
returns-in_err-strip_prefix c =
    let a = c.args in
    rw c.from_residual.ensures (λ n p q e. strip_prefix_is Decides-eqb a.s.now a.head.now None c.in_err-strip_prefix.ensures.cases (decimal n ++ a.tail.now) (sym e))

pub returns-in_err-strip_suffix : goal.returns-in_err-strip_suffix
returns-in_err-strip_suffix c =
    let a = c.args in
    let x = c.in_ok-strip_prefix.field-0 in
    let e = strip_prefix_is Decides-eqb a.s.now a.head.now (Some x) c.in_ok-strip_prefix.ensures.cases in
    rw c.from_residual-in_err-strip_suffix.ensures (λ n p q f. strip_suffix_is Decides-eqb x.now a.tail.now None c.in_err-strip_suffix.ensures.cases (decimal n) (sym (behind a.head.now (decimal n ++ a.tail.now) x.now (f ∙ e))))

pub returns : goal.returns
returns c =
    let a = c.args in
    let x = c.in_ok-strip_prefix.field-0 in
    let y = c.in_ok-strip_suffix.field-0 in
    let e = strip_prefix_is Decides-eqb a.s.now a.head.now (Some x) c.in_ok-strip_prefix.ensures.cases in
    let f = strip_suffix_is Decides-eqb x.now a.tail.now (Some y) c.in_ok-strip_suffix.ensures.cases in
    rw (e, f) (spells_between a.head.now a.tail.now y.now a.low a.high c.decimal_of.result c.decimal_of.ensures)
