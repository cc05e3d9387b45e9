-- Place by place, until one does not pass.
use native.Mathlib.Omega.{arith}
use native.Mathlib.Numerals.{add-one}
use mathlib.Core.Path.{◌≡◌, refl, sym, ap, ◌∙◌}
use mathlib.Core.Bool.{true}
use lib.IntN.{nat_abs}
use mir.Syntax.{w16}
use mir.Facts.{to_z-of_z}
use borrow.Author.Rules.{sfits_of, rules}
use borrow.Author.Count.{below_none, below_more}
use Rattle.meaning.specs.Rows.{some}
use Rattle.meaning.proofs.Laws.Rows.{every_intro, every_no}
use Rattle.meaning.specs.Literals.{kind_of, wanted}
use Rattle.meaning.specs.Check.{place_passes, literal_passes}
use Rattle.tables.specs.Given.{given}
use Rattle.tables.specs.Same.{literal_same}
use Rattle.check_literals.specs.PlaceLaws.{one_more}
use Rattle.check_needs.specs.WordsLaws.{no_needs_lem}
use Rattle.check_literals.proofs.needs_of.Goals as goal

pub loop-k-init : goal.loop-k-init
unfolding some
loop-k-init c c' p q e =
    let i = c.args.i in
    (record { words = no_needs_lem c' i; end = refl }, below_none (λ m. place_passes c' i m ≡ true))

pub returns-then-not-kind_passes : goal.returns-then-not-kind_passes
unfolding literal_passes
returns-then-not-kind_passes c c' p q e =
    let i = c.args.i in
    let b = c.loop-k in
    let v = c.literal-v in
    let there = v.ensures ∙ sym (literal_same c' (given c.args.t.now) e i b.k) in
    let f = c.kind-kind.ensures ∙ ap (λ z. kind_of (nat_abs z)) (to_z-of_z {w = w16} (sfits_of v.type_inv) ∙ there) in
    let g = c.kind_passes.ensures c' i b.k p q (b.invariant c' p q e).0 f in
    (sym (every_no (place_passes c' i) 8 b.k (omega arith) (sym g ∙ c.if-not-kind_passes.true)), search rules)

pub loop-k-preserved : goal.loop-k-preserved
unfolding place_passes
loop-k-preserved c c' p q e =
    let i = c.args.i in
    let b = c.loop-k in
    let v = c.literal-v in
    let z = to_z-of_z {w = w16} (sfits_of v.type_inv) ∙ v.ensures ∙ sym (literal_same c' (given c.args.t.now) e i b.k) in
    let f = c.kind-kind.ensures ∙ ap (λ y. kind_of (nat_abs y)) z in
    let h = b.invariant c' p q e in
    let g = sym (c.kind_passes.ensures c' i b.k p q h.0 f) ∙ c.if-not-kind_passes.false in
    let more = rw (c.wanted.ensures ∙ ap wanted z, f) at c.with_place-a.ensures in (
      rw add-one (one_more c' i b.k b.a c.with_place-a.result h.0 more),
      below_more (λ m. place_passes c' i m ≡ true) b.k h.1 g,
    )

pub returns : goal.returns
unfolding literal_passes
returns c c' p q e =
    let b = c.loop-k in
    let h = b.invariant c' p q e in
    let z : b.k ≡ 8 = omega arith in
    (sym (every_intro (place_passes c' c.args.i) 8 (λ m g. h.1 m (omega arith))), rw z at h.0.words)
