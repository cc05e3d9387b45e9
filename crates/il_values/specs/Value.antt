-- Words as bits, what a test reads, and the Q of the blocks as a word.
use Rattle.std.specs.Prelude.{ℕ, ◌+◌, ◌-◌, ◌/◌, ◌%◌, ◌^◌, Bool, true, false, cond, List, map, eqb, ltb}
use Rattle.meaning.specs.Literals.{input_on}
use Rattle.meaning.specs.Machine.{word_of}
use Rattle.meaning.specs.Scan.{flip_flop_on}
use Rattle.meaning.specs.declared.Block.{Block}
use Rattle.meaning.specs.declared.Operand.{Operand}
use Rattle.meaning.specs.declared.Operand.TheVariants.{Mx, Ix, Qx, TimerQ, TimerIn, TimerPt, Timer, False, True}

-- ---- words as bits, from 0

unfoldable pub bit_on : ℕ → ℕ → Bool
bit_on w k = eqb (w / 2 ^ k % 2) 1

-- bit k of a 64-bit word becomes v
unfoldable pub with_bit : ℕ → ℕ → Bool → ℕ
with_bit w k v = cond (ltb k 64) (w + cond v (2 ^ k) 0 - cond (bit_on w k) (2 ^ k) 0) w

-- ---- what is read

-- what a test reads
unfoldable pub value_in : ℕ → ℕ → List ℕ → Operand → Bool
value_in x qs fs (Mx n) = flip_flop_on fs n
value_in x qs fs (Ix n) = input_on x n
value_in x qs fs (Qx n) = false
value_in x qs fs (TimerQ n) = input_on qs n
value_in x qs fs (TimerIn n) = false
value_in x qs fs (TimerPt n) = false
value_in x qs fs (Timer n) = false
value_in x qs fs False = false
value_in x qs fs True = true

-- the Q of the blocks as a word
unfoldable pub qs_of : List Block → ℕ
qs_of bs = word_of (map (λ b. b.q) bs)
