-- The walk down to the active leaf.
use Rattle.std.specs.Prelude.{ℕ, zero, suc, cond, eqb}

-- from s down, k levels at most, by the numbers that g gives, until that is 0
unfoldable pub walk : (ℕ → ℕ) → ℕ → ℕ → ℕ
walk g zero s = s
walk g (suc k) s = cond (eqb (g s) 0) s (walk g k (g s))
