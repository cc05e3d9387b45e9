-- What the definitions use in place of loops: mostly over the numbers i, i + 1, .. , i + n - 1.
use Rattle.std.specs.Prelude.{ℕ, zero, suc, ◌+◌, Bool, true, false, not, cond, List, [], ◌∷◌}

-- the least of them that passes, or i + n if none does: the users say what that number means to them
unfoldable pub least : (ℕ → Bool) → ℕ → ℕ → ℕ
least p i zero = i
least p i (suc n) = elim (p i) [ true ↦ i | false ↦ least p (suc i) n ]

-- one of them passes
unfoldable pub some : (ℕ → Bool) → ℕ → ℕ → Bool
some p i zero = false
some p i (suc n) = elim (p i) [ true ↦ true | false ↦ some p (suc i) n ]

-- all of them pass
abbrev pub every : (ℕ → Bool) → ℕ → ℕ → Bool
every p i n = not (some (λ k. not (p k)) i n)

-- how many of the numbers below n pass
unfoldable pub count : (ℕ → Bool) → ℕ → ℕ
count p zero = 0
count p (suc n) = count p n + cond (p n) 1 0

-- what f gives at each
unfoldable pub table : {A : Type 0} → (ℕ → A) → ℕ → ℕ → List A
table f i zero = []
table f i (suc n) = f i ∷ table f (suc i) n

-- the largest number of 64 bits: how far lengths, places and counts go
abbrev pub most64 : ℕ
most64 = 18446744073709551615
