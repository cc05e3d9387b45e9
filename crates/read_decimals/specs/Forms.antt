-- What the functions answer that try a word, or a decimal between two.
use Rattle.std.specs.Prelude.{◌≡◌, ℕ, ◌≤◌, Bool, true, List, ◌++◌, Some, None, Option}
use Rattle.format.specs.Text.{decimal}

-- whether l is the word w
abbrev pub SameWord : Bool → List ℕ → List ℕ → Type 0
SameWord r w l = (r ≡ true → w ≡ l) × (w ≡ l → r ≡ true)

-- l is a decimal from low to high between a head and a tail, or none of them
abbrev pub Spells : List ℕ → List ℕ → ℕ → ℕ → List ℕ → (Option ℕ) → Type 0
Spells head tail low high l (Some n) = (low ≤ n) × (n ≤ high) × (head ++ (decimal n ++ tail) ≡ l)
Spells head tail low high l None = (n : ℕ) → low ≤ n → n ≤ high → head ++ (decimal n ++ tail) ≡ l → ⊥
