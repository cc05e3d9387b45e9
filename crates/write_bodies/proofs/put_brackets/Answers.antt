-- One row more is one bracket more.
use mathlib.Core.Path.{◌≡◌}
use mathlib.Core.List.{flat_map}
use Prim.Native.Nat.{suc, ◌+◌, ◌-◌}
use native.Mathlib.Omega.{arith}
use Rattle.meaning.specs.Rows.{table}
use Rattle.meaning.specs.Tables.{pair_state}
use Rattle.meaning.specs.Written.{state_tests}
use Rattle.write_bits.specs.SentLaws.{put_lines, put_nil}
use Rattle.write_bodies.specs.Pairs.{bracket_of, brackets}
use Rattle.write_bodies.specs.PairLaws.{brackets_snoc}
use Rattle.write_bodies.proofs.put_brackets.Goals as goal

pub loop-i-init : goal.loop-i-init
unfolding brackets flat_map table
loop-i-init c = (omega arith, λ g q d k. (let e : c.args.from - c.args.from ≡ 0 = omega arith in rw e (put_nil _ _ (omega arith) (omega arith))))

pub loop-i-preserved : goal.loop-i-preserved
loop-i-preserved c =
    let b = c.loop-i in
    let a = c.args in
    let e : b.i + 1 - a.from ≡ suc (b.i - a.from) = omega arith in
    let f : a.from + (b.i - a.from) ≡ b.i = omega arith in
    let s = c.pair_state.ensures in (
      omega arith,
      λ g q d k.
          rw (e, brackets_snoc g a.pairs.now a.from (b.i - a.from), f)
          (put_lines (brackets g a.pairs.now a.from (b.i - a.from)) (bracket_of (state_tests g (pair_state a.pairs.now b.i))) (b.invariant.1 g q d k)
          (rw s at (c.put_bracket-p.ensures g q d (rw s (k b.i (omega arith) (omega arith)))))),
    )
