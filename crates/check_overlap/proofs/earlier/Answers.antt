-- Every move before j is told apart from move i: by a clash of their words, or by sources that are not near.
use native.Mathlib.Omega.{arith}
use native.Mathlib.Nat.{zero-add}
use mathlib.Core.Path.{sym, ◌∙◌}
use Prim.Native.Nat.{suc, ◌+◌, ◌<◌}
use native.Mathlib.Decide.{dec_le, ℕ_discrete}
use Rattle.meaning.proofs.Laws.Rows.{least_at, least_none}
use Rattle.meaning.specs.Once.{Words64}
use Rattle.meaning.specs.Check.{overlaps, earlier}
use Rattle.tables.specs.Given.{given}
use Rattle.check_needs.specs.WordsLaws.{apart_from, apart_found}
use Rattle.check_overlap.specs.EarlierLaws.{clash_told, overlap_near, overlap_far, overlap_clash}
use Rattle.check_overlap.proofs.earlier.Goals as goal

pub loop-j-init : goal.loop-j-init
loop-j-init c =
    let a = c.args in
    let d = given a.t.now in
    let l = a.words.now in
    let n = c.needs_at-needs in
    let words : Words64 l = λ k. omega (arith, c.type_inv.words k) in
    let t = apart_found l n.result 0 a.i c.first_apart-j.result (omega arith) c.first_apart-j.ensures in
    record {
      within = t.0;
      apart = λ f h w. (
        (λ k z. overlap_clash d a.i k (sym (clash_told d a.i k l words n.result (n.ensures.0 h) h w (omega (arith, t.0, z))) ∙ t.1 k (omega arith) z)),
        (λ z. sym (clash_told d a.i c.first_apart-j.result l words n.result (n.ensures.0 h) h w z) ∙ t.2 z),
      );
    }

pub returns-then-near : goal.returns-then-near
unfolding earlier
returns-then-near c f h w =
    let a = c.args in
    let d = given a.t.now in
    let s = c.source-s in
    let b = c.loop-j in
    let t = c.source in
    let v = b.invariant.apart f h w in
    let z : b.j < a.i = omega arith in
    let first = least_at (overlaps d a.i) 0 a.i b.j (omega arith) (omega arith)
    (overlap_near d a.i b.j s.result t.result s.ensures t.ensures (c.near.ensures f) c.if-near.true (v.1 z))
    (λ k p q. v.0 k q) in
    (z, sym first)

pub loop-j-smaller : goal.loop-j-smaller
loop-j-smaller c =
    let a = c.args in
    let d = given a.t.now in
    let b = c.loop-j in
    let n = c.needs_at-needs in
    omega (arith, apart_from a.words.now n.result (b.j + 1) a.i c.first_apart-j-in-loop-j.result c.first_apart-j-in-loop-j.ensures)

pub loop-j-preserved : goal.loop-j-preserved
loop-j-preserved c =
    let a = c.args in
    let d = given a.t.now in
    let l = a.words.now in
    let n = c.needs_at-needs in
    let s = c.source-s in
    let b = c.loop-j in
    let u = c.source in
    let r = c.first_apart-j-in-loop-j.result in
    let words : Words64 l = λ k. omega (arith, c.type_inv.words k) in
    let t = apart_found l n.result (b.j + 1) a.i r (omega arith) c.first_apart-j-in-loop-j.ensures in
    record {
      within = t.0;
      apart = λ f h w.
          let v = b.invariant.apart f h w in (
            (λ k z. elim (dec_le (suc k) b.j) [
              | yes y ↦ v.0 k y
              | no y ↦ elim (ℕ_discrete k b.j) [
                | yes x ↦ rw x (overlap_far d a.i b.j s.result u.result s.ensures u.ensures (c.near.ensures f) c.if-near.false)
                | no x ↦ overlap_clash d a.i k (sym (clash_told d a.i k l words n.result (n.ensures.0 h) h w (omega (arith, t.0, z))) ∙ t.1 k (omega (arith, x, y)) z)
              ]
            ]),
            (λ z. sym (clash_told d a.i r l words n.result (n.ensures.0 h) h w z) ∙ t.2 z),
          );
    }

pub returns : goal.returns
unfolding earlier
returns c f h w =
    let a = c.args in
    let d = given a.t.now in
    let b = c.loop-j in
    least_none (overlaps d a.i) 0 a.i (λ k p q. (b.invariant.apart f h w).0 k (omega arith)) ∙ zero-add a.i
