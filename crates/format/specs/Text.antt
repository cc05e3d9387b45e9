-- The text of a program: document 01, "The written text".
use Rattle.std.specs.Prelude.{◌≡◌, ℕ, zero, suc, ◌+◌, ◌/◌, ◌%◌, true, false, length, ltb}
use Prim.Native.Char.{Char}
use Prim.Native.Char
use Prim.Native.String.{String}
use mathlib.Core.List.{List, [], ◌∷◌, ◌++◌, flat_map}
use Rattle.meaning.specs.Rows.{table}
use Rattle.meaning.specs.Programs.{Program, instructions, program_fits}
use Rattle.meaning.specs.declared.Operand.{Operand}
use Rattle.meaning.specs.declared.Operand.TheVariants.{Mx, Ix, Qx, TimerQ, TimerIn, TimerPt, Timer, False, True}
use Rattle.meaning.specs.declared.Operator.{Operator}
use Rattle.meaning.specs.declared.Operator.TheVariants.{Ld, Ldn, And, Andn, Or, Close, St, S, R, Cal, LdTime}

-- the bytes of a quoted text
abbrev pub bytes : String → List ℕ
bytes String.[] = []
bytes (String.◌∷◌ h s) = Char.code h ∷ bytes s

-- the decimal digits of n, no more than k + 1 of them
unfoldable pub digits : ℕ → ℕ → List ℕ
digits zero n = (48 + n % 10) ∷ []
digits (suc k) n = elim (ltb n 10) [ true ↦ [] | false ↦ digits k (n / 10) ] ++ ((48 + n % 10) ∷ [])

-- a number of 64 bits has at most 20 digits, and no larger one is printed; "Numbers have no leading zero."
unfoldable pub decimal : ℕ → List ℕ
decimal n = digits 19 n

unfoldable pub operand_text : Operand → List ℕ
operand_text (Mx n) = bytes "%MX" ++ decimal n
operand_text (Ix n) = bytes "%IX" ++ decimal n
operand_text (Qx n) = bytes "%QX" ++ decimal n
operand_text (TimerQ n) = bytes "T" ++ (decimal n ++ bytes ".Q")
operand_text (TimerIn n) = bytes "T" ++ (decimal n ++ bytes ".IN")
operand_text (TimerPt n) = bytes "T" ++ (decimal n ++ bytes ".PT")
operand_text (Timer n) = bytes "T" ++ decimal n
operand_text False = bytes "FALSE"
operand_text True = bytes "TRUE"

-- "one space between parts, capitals as shown"
unfoldable pub operator_text : Operator → List ℕ
operator_text (Ld o) = bytes "LD " ++ operand_text o
operator_text (Ldn o) = bytes "LDN " ++ operand_text o
operator_text (And o) = bytes "AND " ++ operand_text o
operator_text (Andn o) = bytes "ANDN " ++ operand_text o
operator_text Or = bytes "OR("
operator_text Close = bytes ")"
operator_text (St o) = bytes "ST " ++ operand_text o
operator_text (S o) = bytes "S " ++ operand_text o
operator_text (R o) = bytes "R " ++ operand_text o
operator_text (Cal o) = bytes "CAL " ++ operand_text o
operator_text (LdTime n) = bytes "LD T#" ++ (decimal n ++ bytes "ms")

-- "Lines end in LF"
unfoldable pub line : List ℕ → List ℕ
line l = l ++ (10 ∷ [])

-- "T1 : TON;"
unfoldable pub block_line : ℕ → List ℕ
block_line n = line (bytes "T" ++ (decimal n ++ bytes " : TON;"))

-- "if there are timers, VAR, a line "T1 : TON;" each, END_VAR"
unfoldable pub declarations : ℕ → List ℕ
declarations zero = []
declarations (suc d) = line (bytes "VAR") ++ (flat_map block_line (table (λ n. n) 1 (suc d)) ++ line (bytes "END_VAR"))

-- "PROGRAM CHART; .. ; the rungs; END_PROGRAM"
unfoldable pub text : Program → List ℕ
text p = line (bytes "PROGRAM CHART")
    ++ (declarations (length p.timers)
    ++ (flat_map (λ i. line (operator_text i)) (instructions p) ++ line (bytes "END_PROGRAM")))

-- a text is accepted when it is that of a program that the grammar makes
abbrev pub AcceptedText : List ℕ → Type 0
AcceptedText l = (p : Program) × (program_fits p ≡ true) × (text p ≡ l)
