-- The flip-flops after an instruction.
use Rattle.std.specs.Prelude.{ℕ, Bool, true, false, cond, List, set}
use Rattle.meaning.specs.declared.Operand.{Operand}
use Rattle.meaning.specs.declared.Operand.TheVariants.{Mx, Ix, Qx, TimerQ, TimerIn, TimerPt, Timer, False, True}
use Rattle.meaning.specs.declared.Operator.{Operator}
use Rattle.meaning.specs.declared.Operator.TheVariants.{Ld, Ldn, And, Andn, Or, Close, St, S, R, Cal, LdTime}

-- v in a flip-flop
unfoldable pub flip_flop_put : Bool → Operand → List ℕ → List ℕ
flip_flop_put v (Mx n) fs = set fs n (cond v 1 0)
flip_flop_put v (Ix n) fs = fs
flip_flop_put v (Qx n) fs = fs
flip_flop_put v (TimerQ n) fs = fs
flip_flop_put v (TimerIn n) fs = fs
flip_flop_put v (TimerPt n) fs = fs
flip_flop_put v (Timer n) fs = fs
flip_flop_put v False fs = fs
flip_flop_put v True fs = fs

-- the flip-flops after an instruction on the result v: "S and R act only on a true result."
unfoldable pub acted : Operator → Bool → List ℕ → List ℕ
acted (Ld o) v fs = fs
acted (Ldn o) v fs = fs
acted (And o) v fs = fs
acted (Andn o) v fs = fs
acted Or v fs = fs
acted Close v fs = fs
acted (St o) v fs = flip_flop_put v o fs
acted (S o) v fs = cond v (flip_flop_put true o fs) fs
acted (R o) v fs = cond v (flip_flop_put false o fs) fs
acted (Cal o) v fs = fs
acted (LdTime n) v fs = fs
