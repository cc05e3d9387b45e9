-- Which values of timers pass.
use Rattle.std.specs.Prelude.{ℕ, suc, ◌%◌, Bool, ◌&&◌, ◌||◌, List, get_or, eqb, leb}
use Rattle.meaning.specs.Literals.{input_on}
use Rattle.chart_timers.specs.Times.{longest}

-- a value v of a timer with preset p, that runs or not, at the scan step d
abbrev pub value_passes : ℕ → ℕ → Bool → ℕ → Bool
value_passes d p b v = eqb (v % d) 0 && leb v (longest d p) && (b || eqb v 0)

-- the value of row i, where the timers of the word w run
abbrev pub row_passes : ℕ → List ℕ → ℕ → List ℕ → ℕ → Bool
row_passes d ps w ts i = value_passes d (get_or ps i 0) (input_on w (suc i)) (get_or ts i 0)
