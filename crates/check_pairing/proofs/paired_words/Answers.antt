-- The root is done with its own pairs, and each state when its super-state is.
use Rattle.std.proofs.Common.{refl, ◌∙◌, arith}
use Rattle.tables.specs.Given.{given}
use Rattle.check_pairing.specs.WordsLaws.{root_done, inherited}
use Rattle.check_pairing.proofs.paired_words.Goals as goal

pub loop-s-init : goal.loop-s-init
loop-s-init c = (refl, λ t m o. root_done (given c.args.t.now) c.args.pairs.now c.own_words.new.words t m o)

pub loop-s-preserved : goal.loop-s-preserved
loop-s-preserved c =
    let b = c.loop-s in
    let a = c.args in
    let d = given a.t.now in
    let f = c.inherit in (
      f.auto.words ∙ b.invariant.0,
      λ t m o.
          let g = (t.hierarchy b.s (omega arith)).smaller (λ z. omega (arith, z)) in
          rw (f.ensures (omega (arith, g, b.invariant.0, m)) (omega (arith, b.invariant.0, m)))
          (inherited d a.pairs.now b.words b.s t (omega arith) (omega arith) (omega (arith, b.invariant.0, m)) (b.invariant.1 t m o)),
    )
