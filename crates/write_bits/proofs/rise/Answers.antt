-- The root ends a path, and where the rules hold it is reached in time.
use mathlib.Core.Path.{◌≡◌, refl, sym, ap, ◌∙◌}
use native.Mathlib.Numerals.{add-one}
use native.Mathlib.Omega.{arith}
use lib.ListN.{length-set}
use Rattle.meaning.specs.Tables.{super_state}
use Rattle.meaning.specs.Hierarchy.{up}
use Rattle.meaning.proofs.Laws.Tree.{shallow}
use Rattle.tables.specs.Given.{given}
use Rattle.tables.specs.Same.{super_state_same}
use Rattle.write_bits.specs.GroupLaws.{root_below, risen_depth, risen_path, risen_more}
use Rattle.write_bits.proofs.rise.Goals as goal

pub loop-k-init : goal.loop-k-init
unfolding up
loop-k-init c = (c.requires, λ d e. (refl, λ j h. absurd (omega arith)))

pub returns-then-at-eq0 : goal.returns-then-at-eq0
returns-then-at-eq0 c = (
  omega arith,
  λ d e R.
      let b = c.loop-k in
      let i = b.invariant.1 d e in
      let s = c.args.s in
      let z : up d b.k s ≡ 0 = sym i.0 ∙ c.if-at-eq0.true in
      record { deep = risen_depth d R s b.k z (λ j h. (i.1 j h).1); path = λ j h. risen_path d s b.path b.k b.at (omega arith) i j (omega arith) },
)

pub loop-k-preserved : goal.loop-k-preserved
unfolding up
loop-k-preserved c =
    let b = c.loop-k in (
      omega (arith, length-set b.path b.k b.at),
      λ d e.
          let i = b.invariant.1 d e in
          let s = c.args.s in
          let f = c.super_state-at.ensures ∙ sym (super_state_same d (given c.args.t.now) e b.at) in (
            rw (add-one b.k) (f ∙ ap (super_state d) i.0),
            λ j h. (risen_path d s b.path b.k b.at (omega arith) i j (omega arith), risen_more d s b.path b.k b.at i c.if-at-eq0.false j (omega arith)),
          ),
    )

pub returns : goal.returns
returns c = (
  omega arith,
  λ d e R.
      let b = c.loop-k in
      let s = c.args.s in
      absurd (root_below d R s b.k (omega (arith, shallow d R s)) (λ j h. ((b.invariant.1 d e).1 j h).1)),
)
