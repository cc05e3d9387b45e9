-- From j on the first one without a clash is the one that was looked for; past the end of the words none clashes.
use native.Mathlib.Omega.{arith}
use native.Mathlib.Numerals.{add-one}
use mathlib.Core.Path.{◌≡◌, sym, ◌∙◌}
use Rattle.check_needs.specs.WordsLaws.{apart_skip, apart_here, apart_past}
use Rattle.check_needs.proofs.first_apart.Goals as goal

pub returns-then-not-clash_at : goal.returns-then-not-clash_at
returns-then-not-clash_at c =
    let a = c.args in
    let b = c.loop-j in
    sym (b.invariant.same ∙ apart_here a.words.now a.a b.j a.to (omega (arith, c.min-known.ensures)) (sym c.clash_at.ensures ∙ c.if-not-clash_at.true))

pub loop-j-preserved : goal.loop-j-preserved
loop-j-preserved c =
    let a = c.args in
    let b = c.loop-j in
    record {
      within = omega arith;
      same = rw add-one (b.invariant.same ∙ apart_skip a.words.now a.a b.j a.to (omega (arith, c.min-known.ensures)) (sym c.clash_at.ensures ∙ c.if-not-clash_at.false));
    }

pub returns : goal.returns
returns c =
    let a = c.args in
    let b = c.loop-j in
    let end : c.max.result ≡ b.j = omega (arith, c.max.ensures) in
    end ∙ sym (b.invariant.same ∙ apart_past a.words.now a.a b.j a.to (λ h. omega (arith, c.min-known.ensures)))
