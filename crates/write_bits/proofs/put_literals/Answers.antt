-- One place more is the test of its literal.
use mir.Syntax.{w16}
use mathlib.Core.Path.{◌≡◌, sym, ap, ◌∙◌}
use mir.Facts.{to_z-of_z}
use lib.IntN.{nat_abs}
use borrow.Author.Rules.{sfits_of}
use Rattle.meaning.specs.Literals.{kind_of, wanted}
use mathlib.Core.List.{flat_map}
use native.Mathlib.Numerals.{add-one}
use native.Mathlib.Omega.{arith}
use Rattle.meaning.specs.Rows.{table}
use Rattle.meaning.specs.Written.{literal_tests}
use Rattle.tables.specs.Given.{given}
use Rattle.tables.specs.Same.{literal_same}
use Rattle.write_bits.specs.Sent.{literals_to}
use Rattle.write_bits.specs.SentLaws.{sent_sent, sent_none, literals_snoc}
use Rattle.write_bits.proofs.put_literals.Goals as goal

pub loop-j-init : goal.loop-j-init
unfolding literals_to flat_map table
loop-j-init c d e = sent_none _ _ (omega arith) (omega arith)

pub loop-j-preserved : goal.loop-j-preserved
loop-j-preserved c d e =
    let b = c.loop-j in
    let i = c.args.i in
    let v = c.literal-v in
    let f = to_z-of_z {w = w16} (sfits_of v.type_inv) ∙ v.ensures ∙ sym (literal_same d (given c.args.t.now) e i b.j) in
    rw (add-one b.j, literals_snoc d i b.j)
    (sent_sent (b.invariant d e) (rw (c.wanted.ensures ∙ ap wanted f, c.kind.ensures ∙ ap (λ z. kind_of (nat_abs z)) f) at (c.put_kind-p.ensures d)))

pub returns : goal.returns
unfolding literal_tests literals_to
returns c d e =
    let f : c.loop-j.j ≡ 8 = omega arith in
    rw f at (c.loop-j.invariant d e)
