-- All that is named is among what is run below.
use native.Mathlib.Omega.{arith}
use mathlib.Core.Path.{sym, ap, ◌∙◌}
use lib.ListN.{get_or}
use Rattle.meaning.specs.Tables.{source}
use Rattle.meaning.specs.Literals.{input_on}
use Rattle.meaning.specs.Check.{idle_passes}
use Rattle.tables.specs.Given.{given}
use Rattle.tables.specs.Same.{source_same}
use Rattle.check_needs.specs.Words.{needs_at}
use Rattle.check_needs.specs.WordsLaws.{small_at}
use Rattle.check_idle.specs.Leaves.{idle_words}
use Rattle.check_idle.proofs.idle_passes.Goals as goal

pub returns : goal.returns
unfolding idle_passes
returns c c' e r h k w =
    let a = c.args in
    let f = c.source.ensures ∙ sym (source_same c' (given a.t.now) e a.i) in
    let g = c.type_inv.words in
    let n = c.needs_at in
    let l = a.words.now in
    let s = small_at l (λ m. omega (arith, g m)) a.i in
    rw (c.timers_named-named.ensures, n.ensures.0 k) (idle_words c' a.i (source c' a.i) (needs_at l a.i) c.at.result w
    (λ t p q. ap (λ y. input_on y t) (c.at.ensures ∙ ap (λ y. get_or a.below.now y 0) f) ∙ r t (source c' a.i) p q h)
    s.on.timers s.off.timers)
