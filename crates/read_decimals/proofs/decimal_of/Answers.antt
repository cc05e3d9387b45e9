-- Why there is no decimal, at each way out; and that a digit more keeps the invariant.
use native.Mathlib.Omega.{arith}
use native.Mathlib.Numerals.{add-one}
use mathlib.Core.List.{append-nil}
use Rattle.read_decimals.specs.Spelling.{spelling_more, spelt_all, too_large, no_digit, no_front, digit_more}
use Rattle.read_decimals.proofs.decimal_of.Goals as goal

pub returns-then-is_empty : goal.returns-then-is_empty
returns-then-is_empty c = λ m p q e. no_front c.args.s.now (λ h. grind arith) (λ h. grind arith) m (omega arith) (rw append-nil at e)

pub returns-then-not-is_ascii_digit : goal.returns-then-not-is_ascii_digit
returns-then-not-is_ascii_digit c = let h = c.if-not-is_ascii_digit.ensures.cases in λ m p q e. no_digit c.loop-b.invariant.spelling (omega arith) (λ x y. omega (arith, h)) m (omega arith) (rw append-nil at e)

pub returns-then-from-n : goal.returns-then-from-n
returns-then-from-n c =
    λ m p q e. too_large (spelling_more c.loop-b.invariant.spelling (omega arith) (omega (arith, c.if-not-is_ascii_digit.ensures.cases)) (omega (arith, c.if-not-is_ascii_digit.ensures.cases)) (λ h. c.loop-b.invariant.positive h (omega arith)) (omega arith)) m (omega arith) (omega arith) (rw append-nil at e)

pub loop-b-preserved : goal.loop-b-preserved
loop-b-preserved c = let i = c.loop-b.invariant in
    let h = c.if-not-is_ascii_digit.ensures.cases in
    record {
      small = omega arith;
      spelling = rw (c.from.ensures, add-one) (spelling_more i.spelling (omega arith) (omega (arith, h)) (omega (arith, h)) (λ h. i.positive h (omega arith)) (omega arith));
      positive = λ g. rw c.from.ensures (digit_more c.args.s.now c.loop-b.b-index c.loop-b.n i.positive i.no_zero (omega (arith, h)));
      no_zero = i.no_zero;
    }

pub returns-then-n-from : goal.returns-then-n-from
returns-then-n-from c = λ m p q e. omega (arith, spelt_all c.loop-b.invariant.spelling (omega arith) m (omega arith) (rw append-nil at e))
