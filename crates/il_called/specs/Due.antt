-- The block that a decoded word calls.
use Rattle.format.specs.Decode.{Decoded}
use Rattle.std.specs.Prelude.{ℕ, ◌-◌, min, Some, None}
use Rattle.meaning.specs.declared.Operand.{Operand}
use Rattle.meaning.specs.declared.Operand.TheVariants.{Mx, Ix, Qx, TimerQ, TimerIn, TimerPt, Timer, False, True}
use Rattle.meaning.specs.declared.Operator.{Operator}
use Rattle.meaning.specs.declared.Operator.TheVariants.{Ld, Ldn, And, Andn, Or, Close, St, S, R, Cal, LdTime}

unfoldable pub block_of : ℕ → Operand → ℕ
block_of c (Mx n) = c
block_of c (Ix n) = c
block_of c (Qx n) = c
block_of c (TimerQ n) = c
block_of c (TimerIn n) = c
block_of c (TimerPt n) = c
block_of c (Timer n) = min (n - 1) c
block_of c False = c
block_of c True = c

unfoldable pub called_by : ℕ → Operator → ℕ
called_by c (Ld o) = c
called_by c (Ldn o) = c
called_by c (And o) = c
called_by c (Andn o) = c
called_by c Or = c
called_by c Close = c
called_by c (St o) = c
called_by c (S o) = c
called_by c (R o) = c
called_by c (Cal o) = block_of c o
called_by c (LdTime n) = c

-- the block, from 0, that a CAL calls out of c blocks; c where it is no CAL, or one of no such block
unfoldable pub due : ℕ → Decoded → ℕ
due c (Some i) = called_by c i
due c None = c
