-- After i moves their words are in the slice.
use native.Mathlib.Omega.{arith}
use mathlib.Core.Path.{◌∙◌}
use Prim.Native.Nat.{◌<◌, ◌/◌}
use native.Mathlib.Numerals.{add-one}
use lib.ListN.{length}
use Rattle.meaning.specs.Tables.{move_count}
use Rattle.tables.specs.Given.{given}
use Rattle.tables.specs.Same.{move_count_same}
use Rattle.check_needs.specs.Words.{need_words}
use Rattle.check_literals.proofs.fill.Goals as goal

pub loop-i-preserved : goal.loop-i-preserved
loop-i-preserved c =
    let b = c.loop-i in
    let w = c.literal_passes.ensures in
    record {
      long = w.long ∙ b.invariant.long;
      done = λ c' p q e l long.
          let n = move_count_same c' (given c.args.t.now) e in
          let m : b.i < move_count c' = omega (arith, n, c.move_count-i-end.ensures, c.loop-i-test.true) in
          let g : b.i < length b.words / need_words = omega (arith, b.invariant.long, m, long) in
          let f = w.value c' p q e in
          rw add-one (f.1 (f.0 ∙ l b.i m) g (b.invariant.done c' p q e l long));
    }

pub returns : goal.returns
returns c c' p q e l long i h =
    let n = move_count_same c' (given c.args.t.now) e in
    let b = c.loop-i in
    b.invariant.done c' p q e l long i (omega (arith, n, c.move_count-i-end.ensures, b.auto.i-end, c.loop-i-test.false, h))
