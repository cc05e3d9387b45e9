-- How a test or store is written.
use Rattle.std.specs.Prelude.{Bool, cond, List, ℕ}
use Rattle.format.specs.Text.{bytes}
use Rattle.write_operators.specs.declared.Way.{Way}
use Rattle.write_operators.specs.declared.Way.TheVariants.{First, More, Store}

-- the operator, up to the operand
abbrev pub operator_bytes : Way → Bool → List ℕ
operator_bytes First w = cond w (bytes "LD ") (bytes "LDN ")
operator_bytes More w = cond w (bytes "AND ") (bytes "ANDN ")
operator_bytes Store w = cond w (bytes "S ") (bytes "R ")

abbrev pub next : Way → Way
next First = More
next More = More
next Store = Store

-- a test is on a flip-flop, a store on its working copy
abbrev pub base_of : ℕ → Way → ℕ
base_of total First = 0
base_of total More = 0
base_of total Store = total
