-- Stores, calls and times by the two numbers of their word.
use Rattle.std.specs.Prelude.{ℕ, cond, eqb}
use Rattle.meaning.specs.declared.Operator.{Operator}
use Rattle.meaning.specs.declared.Operator.TheVariants.{St, S, R, Cal, LdTime}
use Rattle.format.specs.Decode.{operand_of}

-- a store, call or time by its number k and operand m, whether some list has it or not; a time for each number beyond
unfoldable pub store_of : ℕ → ℕ → Operator
store_of k m = cond (eqb k 7) (St (operand_of m))
    (cond (eqb k 8) (S (operand_of m))
    (cond (eqb k 9) (R (operand_of m))
    (cond (eqb k 10) (Cal (operand_of m)) (LdTime m))))
