-- Move by move, until one does not pass.
use Rattle.check_tables.specs.Verdicts.{literal_check, fails_at, all_pass}
use Rattle.meaning.specs.Check.{literal_passes}
use Rattle.tables.specs.Given.{given}
use borrow.Author.Count.{below_none, below_more}
use native.Mathlib.Numerals.{add-one}
use native.Mathlib.Omega.{arith}
use mathlib.Core.Bool.{true, true≢false}
use mathlib.Core.Path.{◌≡◌, refl, sym, ◌∙◌}
use Rattle.check_tables.proofs.judge_literal.Goals as goal

pub loop-i-init : goal.loop-i-init
loop-i-init c = record { long = refl; pass = below_none (λ m. literal_passes (given c.args.t.now) m ≡ true); words = λ k i h. absurd (omega arith) }

pub returns-then-not-literal_passes : goal.returns-then-not-literal_passes
returns-then-not-literal_passes c =
    let d = given c.args.t.now in
    let b = c.loop-i in
    let k = c.of-counts.ensures in
    let f = c.literal_passes.ensures.value d (sym k.0) (sym k.1) refl in
    (sym (fails_at (literal_check d) b.i (omega (arith, c.move_count-i-end.ensures, c.loop-i-test.true)) b.invariant.pass (sym f.0 ∙ c.if-not-literal_passes.true)), λ z. absurd (true≢false z))

pub loop-i-preserved : goal.loop-i-preserved
loop-i-preserved c =
    let d = given c.args.t.now in
    let b = c.loop-i in
    let k = c.of-counts.ensures in
    let f = c.literal_passes.ensures in
    let g = f.value d (sym k.0) (sym k.1) refl in
    let z = c.if-not-literal_passes.false in
    record {
      long = f.long ∙ b.invariant.long;
      pass = below_more (λ m. literal_passes d m ≡ true) b.i b.invariant.pass (sym g.0 ∙ z);
      words = λ h. rw add-one (g.1 z (omega (arith, b.invariant.long, h, c.move_count-i-end.ensures, c.loop-i-test.true)) (b.invariant.words h));
    }

pub returns : goal.returns
returns c =
    let n = c.move_count-i-end.ensures in
    let b = c.loop-i in (
      sym (all_pass (literal_check (given c.args.t.now)) (λ m h. b.invariant.pass m (omega (arith, n, h, c.loop-i-test.false)))),
      λ z h k g. b.invariant.words h k (omega (arith, n, g, c.loop-i-test.false)),
    )
