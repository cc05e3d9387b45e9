-- A bit that is on adds its weight; one that was on is not above the word.
use Rattle.std.proofs.Common.{arith, sym, ◌∙◌, lt-ltb}
use Rattle.meaning.proofs.Laws.Bits.{weight}
use Rattle.il_values.specs.Bits.{bit_low, or_weighs}
use Rattle.il_values.specs.Value.{with_bit}
use Rattle.il_values.proofs.with_bit.Goals as goal

pub returns-then-v : goal.returns-then-v
unfolding with_bit
returns-then-v c = let k = c.args.k in let z = or_weighs k c.args.w in rw (c.if-v.true, lt-ltb k 64 (omega arith), weight k (omega arith)) (omega (arith, z))

pub overflow_sub-result : goal.overflow_sub-result
overflow_sub-result c = let a = c.args in rw (weight a.k (omega arith)) (bit_low a.k a.w (sym c.bit_on.ensures ∙ c.if-bit_on.true))
