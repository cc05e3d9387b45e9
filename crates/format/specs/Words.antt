-- Instructions as 32-bit words: document 01, "As a 32-bit word: operator number times 134,217,728 plus operand".
use Rattle.std.specs.Prelude.{◌≡◌, ℕ, ◌+◌, ◌*◌, true, List, map}
use Rattle.meaning.specs.Programs.{Program, instructions, program_fits}
use Rattle.meaning.specs.declared.Operand.{Operand}
use Rattle.meaning.specs.declared.Operand.TheVariants.{Mx, Ix, Qx, TimerQ, TimerIn, TimerPt, Timer, False, True}
use Rattle.meaning.specs.declared.Operator.{Operator}
use Rattle.meaning.specs.declared.Operator.TheVariants.{Ld, Ldn, And, Andn, Or, Close, St, S, R, Cal, LdTime}

unfoldable pub operand_number : Operand → ℕ
operand_number (Mx n) = n
operand_number (Ix n) = 384 + n
operand_number (Qx n) = 512 + n
operand_number (TimerQ n) = 768 + n
operand_number (TimerIn n) = 1024 + n
operand_number (TimerPt n) = 1280 + n
operand_number (Timer n) = 1536 + n
operand_number False = 2000
operand_number True = 2001

abbrev pub packed : ℕ → ℕ → ℕ
packed operator operand = operator * 134217728 + operand

unfoldable pub word : Operator → ℕ
word (Ld o) = packed 1 (operand_number o)
word (Ldn o) = packed 2 (operand_number o)
word (And o) = packed 3 (operand_number o)
word (Andn o) = packed 4 (operand_number o)
word Or = packed 5 0
word Close = packed 6 0
word (St o) = packed 7 (operand_number o)
word (S o) = packed 8 (operand_number o)
word (R o) = packed 9 (operand_number o)
word (Cal o) = packed 10 (operand_number o)
word (LdTime n) = packed 11 n

unfoldable pub words : Program → List ℕ
words p = map word (instructions p)

-- a list of words is accepted when it is that of a program that the grammar makes
abbrev pub AcceptedWords : List ℕ → Type 0
AcceptedWords l = (p : Program) × (program_fits p ≡ true) × (words p ≡ l)
