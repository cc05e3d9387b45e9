-- What the functions answer that try an operand.
use Rattle.std.specs.Prelude.{◌≡◌, ℕ, Bool, true, List, ◌++◌, Some, None, Option}
use Rattle.meaning.specs.declared.Operand.{Operand}
use Rattle.format.specs.Text.{operand_text}

-- l is an operand that passes behind a head, or none of them
abbrev pub Names : List ℕ → (Operand → Bool) → List ℕ → (Option Operand) → Type 0
Names head passes l (Some o) = (passes o ≡ true) × (head ++ operand_text o ≡ l)
Names head passes l None = (o : Operand) → passes o ≡ true → head ++ operand_text o ≡ l → ⊥
