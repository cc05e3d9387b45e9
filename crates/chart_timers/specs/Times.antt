-- The values of timers, in ms.
use Rattle.std.specs.Prelude.{ℕ, ◌+◌, ◌*◌, ◌-◌, ◌/◌, min, Bool, cond}

-- N scan steps, for a preset p and the scan step d
abbrev pub longest : ℕ → ℕ → ℕ
longest d p = (p + d - 1) / d * d

-- a value after a step of d ms, up to m, for a timer that ran before and runs after, or not
abbrev pub value_grown : ℕ → ℕ → Bool → ℕ → ℕ
value_grown d m b v = cond b (min (v + d) m) 0
