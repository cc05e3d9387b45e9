-- What the functions compute of one instruction: with one value deferred, IN and PT held until CAL, and Q and outputs as words.
use Rattle.format.specs.Decode.{Decoded}
use Rattle.std.specs.Prelude.{ℕ, ◌-◌, Bool, ◌&&◌, ◌||◌, not, List, Some, None}
use Rattle.meaning.specs.declared.Operand.{Operand}
use Rattle.meaning.specs.declared.Operand.TheVariants.{Mx, Ix, Qx, TimerQ, TimerIn, TimerPt, Timer, False, True}
use Rattle.meaning.specs.declared.Operator.{Operator}
use Rattle.meaning.specs.declared.Operator.TheVariants.{Ld, Ldn, And, Andn, Or, Close, St, S, R, Cal, LdTime}
use Rattle.il_values.specs.Value.{with_bit, value_in}
use Rattle.il_stores.specs.Acted.{acted}
use Rattle.il_instruction.specs.declared.Registers.{Registers}

abbrev pub loaded : Bool → Registers → Registers
loaded v s = record { result = v; deferred = s.deferred; time = s.time; input = s.input; pt = s.pt; qs = s.qs; outputs = s.outputs }

-- OR( defers the result
abbrev pub opened_bracket : Registers → Registers
opened_bracket s = record { result = s.result; deferred = s.result; time = s.time; input = s.input; pt = s.pt; qs = s.qs; outputs = s.outputs }

-- ) ors it with what the bracket gave
abbrev pub closed_bracket : Registers → Registers
closed_bracket s = loaded (s.deferred || s.result) s

abbrev pub time_loaded : ℕ → Registers → Registers
time_loaded n s = record { result = s.result; deferred = s.deferred; time = n; input = s.input; pt = s.pt; qs = s.qs; outputs = s.outputs }

abbrev pub with_on : Bool → Registers → Registers
with_on v s = record { result = s.result; deferred = s.deferred; time = s.time; input = v; pt = s.pt; qs = s.qs; outputs = s.outputs }

abbrev pub with_time_as_pt : Registers → Registers
with_time_as_pt s = record { result = s.result; deferred = s.deferred; time = s.time; input = s.input; pt = s.time; qs = s.qs; outputs = s.outputs }

abbrev pub with_qs : ℕ → Registers → Registers
with_qs n s = record { result = s.result; deferred = s.deferred; time = s.time; input = s.input; pt = s.pt; qs = n; outputs = s.outputs }

abbrev pub with_output_word : ℕ → Registers → Registers
with_output_word n s = record { result = s.result; deferred = s.deferred; time = s.time; input = s.input; pt = s.pt; qs = s.qs; outputs = n }

-- ST of the result, apart from the flip-flops
unfoldable pub stored_to : Operand → Registers → Registers
stored_to (Mx n) s = s
stored_to (Ix n) s = s
stored_to (Qx n) s = with_output_word (with_bit s.outputs (n - 1) s.result) s
stored_to (TimerQ n) s = s
stored_to (TimerIn n) s = with_on s.result s
stored_to (TimerPt n) s = with_time_as_pt s
stored_to (Timer n) s = s
stored_to False s = s
stored_to True s = s

-- an instruction's effect, apart from the flip-flops and the blocks
unfoldable pub evaluated : ℕ → List ℕ → Operator → Registers → Registers
evaluated x fs (Ld o) s = loaded (value_in x s.qs fs o) s
evaluated x fs (Ldn o) s = loaded (not (value_in x s.qs fs o)) s
evaluated x fs (And o) s = loaded (s.result && value_in x s.qs fs o) s
evaluated x fs (Andn o) s = loaded (s.result && not (value_in x s.qs fs o)) s
evaluated x fs Or s = opened_bracket s
evaluated x fs Close s = closed_bracket s
evaluated x fs (St o) s = stored_to o s
evaluated x fs (S o) s = s
evaluated x fs (R o) s = s
evaluated x fs (Cal o) s = s
evaluated x fs (LdTime n) s = time_loaded n s

unfoldable pub running : ℕ → List ℕ → Decoded → Registers → Registers
running x fs (Some i) s = evaluated x fs i s
running x fs None s = s

unfoldable pub flip_flops_after : Decoded → Bool → List ℕ → List ℕ
flip_flops_after (Some i) v fs = acted i v fs
flip_flops_after None v fs = fs
