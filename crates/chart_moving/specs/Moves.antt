-- What the stores of a move compute.
use Rattle.std.specs.Prelude.{ℕ, zero, suc, cond, List, set, eqb}
use Rattle.meaning.specs.Tables.{Tables, super_state}

-- "A move sets every super-state above its target to lead to the target.": k levels at most
unfoldable pub set_above : Tables → ℕ → ℕ → List ℕ → List ℕ
set_above c zero s m = m
set_above c (suc k) s m = cond (eqb s 0) m (set_above c k (super_state c s) (set m (super_state c s) s))

-- "the target, if a super-state, and those reached below it by initial sub-states are set to initial": k levels at most
unfoldable pub set_below : (ℕ → ℕ) → ℕ → ℕ → List ℕ → List ℕ
set_below g zero s m = m
set_below g (suc k) s m = cond (eqb (g s) 0) (set m s (g s)) (set_below g k (g s) (set m s (g s)))
