-- The pair is the least earlier move and move i; their sets are joined.
use native.Mathlib.Omega.{arith}
use mathlib.Core.Path.{refl, ap, ap₂, ◌∙◌}
use Prim.Native.Nat.{max}
use Rattle.meaning.specs.Tables.{source}
use Rattle.meaning.specs.Check.{earlier}
use Rattle.meaning.specs.Once.{Words64}
use Rattle.tables.specs.Given.{given}
use Rattle.check_needs.specs.WordsLaws.{SmallNeeds, small_at}
use Rattle.check_witness.specs.Passed.{both_on_lem, both_off_lem, union_small}
use Rattle.check_witness.proofs.show.Goals as goal

pub returns : goal.returns
returns c room w known below first =
    let a = c.args in
    let d = given a.t.now in
    let l = a.words.now in
    let n = c.needs_at-a in
    let o = c.needs_at-b in
    let p = n.ensures.0 (omega (arith, below, room, known)) in
    let q = o.ensures.0 (omega (arith, room, known)) in
    let words : Words64 l = λ m. omega (arith, c.type_inv.words m) in
    let sj : SmallNeeds n.result = rw p (small_at l words a.j) in
    let si : SmallNeeds o.result = rw q (small_at l words a.i) in
    let A = w (earlier d a.i) (omega (arith, below, first, known)) in
    record {
      answer = refl;
      shown = record {
        earlier = first;
        state = c.max.ensures ∙ ap₂ max (c.source.ensures ∙ ap (source d) first) c.source-2.ensures;
        on = both_on_lem d l a.i a.j n.result o.result p q first A (w a.i known) c.union.result c.union.ensures;
        off = both_off_lem d l a.i a.j n.result o.result p q first A (w a.i known) c.union-2.result c.union-2.ensures;
        on_small = union_small n.result.on o.result.on c.union.result sj.on si.on c.union.ensures;
        off_small = union_small n.result.off o.result.off c.union-2.result sj.off si.off c.union-2.ensures;
      };
    }
