-- Which timers are expired, by the word of those that run.
use Rattle.std.specs.Prelude.{ℕ, suc, Bool, ◌&&◌, List, get_or, leb}
use Rattle.meaning.specs.Literals.{input_on}

-- the timer of row i runs, by its bit, and is at least its preset
abbrev pub expired_at : List ℕ → ℕ → List ℕ → ℕ → Bool
expired_at ps w ts i = input_on w (suc i) && leb (get_or ps i 0) (get_or ts i 0)
