-- Each level is the group of its initial sub-state; a leaf has none, and no state is below the last level.
use mathlib.Core.Path.{◌≡◌, refl, sym, ◌∙◌}
use Prim.Native.Nat.{suc, ◌+◌, ◌-◌}
use native.Mathlib.Omega.{arith}
use Rattle.meaning.specs.Tables.{initial}
use Rattle.meaning.specs.Written.{group_bits, bit_store, initial_stores}
use Rattle.tables.specs.Given.{given}
use Rattle.tables.specs.Same.{initial_same, depth_same}
use Rattle.write_operators.specs.declared.Way.TheVariants.{Store}
use Rattle.write_bits.specs.SentLaws.{put_lines, put_nil, after_store}
use Rattle.write_rungs.specs.RungLaws.{group_put, at_leaf, at_super}
use Rattle.write_rungs.proofs.put_initials.Goals as goal

pub loop-level-init : goal.loop-level-init
loop-level-init c = (
  omega arith,
  λ g q d h.
      let f = c.depth-level.ensures ∙ sym (depth_same g (given c.args.t.now) q c.args.target) in
      (h, refl, λ m r y. rw f at y),
)

pub loop-level-preserved : goal.loop-level-preserved
loop-level-preserved c =
    let b = c.loop-level in (
      omega arith,
      λ g q d h.
          let i = b.invariant.1 g q d h in
          let store : b.spot ≡ record { at = b.spot.at; way = Store } = λ j. record { at = b.spot.at; way = i.1 j } in
          let f = c.initial-sub.ensures ∙ sym (initial_same g (given c.args.t.now) q b.s) in
          let k = 8 - (b._level + 1) in
          let e : 8 - b._level ≡ suc k = omega arith in
          let v = at_super d k b.s i.0 (λ z. c.if-sub-eq0.false (f ∙ z)) in
          let p = rw (store, f) at (c.put_group-spot.ensures g d.laid d.rules (rw f v.0)) in
          let x = group_put d b.s (initial g b.s) p in
          (rw f v.0.known, p.way ∙ after_store _, λ m r y. i.2 m r (rw (e, v.1) (put_lines (group_bits g (bit_store g) b.s (initial g b.s)) (initial_stores g k (initial g b.s)) x (rw f at y)))),
    )

pub returns-then-sub-eq0 : goal.returns-then-sub-eq0
returns-then-sub-eq0 c g q d h =
    let b = c.loop-level in
    let i = b.invariant.1 g q d h in
    let f = c.initial-sub.ensures ∙ sym (initial_same g (given c.args.t.now) q b.s) in
    i.2 _ _ (rw (at_leaf d (8 - b._level) b.s i.0 (sym f ∙ c.if-sub-eq0.true)) (put_nil _ _ (omega arith) b.invariant.0))

pub returns-after-loop-level : goal.returns-after-loop-level
unfolding initial_stores
returns-after-loop-level c g q d h =
    let b = c.loop-level in
    let e : 8 - b._level ≡ 0 = omega arith in
    (b.invariant.1 g q d h).2 _ _ (rw e (put_nil _ _ (omega arith) b.invariant.0))
