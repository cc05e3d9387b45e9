-- The stores of a rung, and the lines that end a timer's.
use Rattle.std.specs.Prelude.{Bool, true, false, List, [], ◌∷◌, ◌++◌, ℕ}
use Rattle.meaning.specs.Tables.{Tables}
use Rattle.meaning.specs.Hierarchy.{depth}
use Rattle.meaning.specs.Written.{path_bits, bit_store, stores_from}
use Rattle.meaning.specs.declared.Operand.TheVariants.{TimerIn, TimerPt, Timer}
use Rattle.meaning.specs.declared.Operator.{Operator}
use Rattle.meaning.specs.declared.Operator.TheVariants.{St, Cal, LdTime}

-- what a move with this target and mark sets
abbrev pub stores_of : Tables → ℕ → ℕ → List Operator
stores_of c t m = path_bits c (bit_store c) (depth c t) t ++ stores_from c m t

abbrev pub is_nil : {A : Type 0} → List A → Bool
is_nil [] = true
is_nil (x ∷ xs) = false

abbrev pub call_of : ℕ → ℕ → List Operator
call_of n time = St (TimerIn n) ∷ LdTime time ∷ St (TimerPt n) ∷ Cal (Timer n) ∷ []
