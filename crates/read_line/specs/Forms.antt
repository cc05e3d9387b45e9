-- The bytes that lines begin with.
use Rattle.std.specs.Prelude.{◌≡◌, ◌≢◌, ℕ, ◌≤◌, List, get_or}
use Rattle.meaning.specs.declared.Operator.{Operator}
use Rattle.meaning.specs.declared.Operator.TheVariants.{Ld, Ldn, And, Andn, Or, Close, St, S, R, Cal, LdTime}
use Rattle.format.specs.declared.Line.{Line}
use Rattle.format.specs.declared.Line.TheVariants.{Header, Var, Block, EndVar, Says, EndProgram, Unknown}

-- the byte that an instruction begins with
unfoldable pub operator_byte : Operator → ℕ
operator_byte (Ld o) = 76
operator_byte (Ldn o) = 76
operator_byte (And o) = 65
operator_byte (Andn o) = 65
operator_byte Or = 79
operator_byte Close = 41
operator_byte (St o) = 83
operator_byte (S o) = 83
operator_byte (R o) = 82
operator_byte (Cal o) = 67
operator_byte (LdTime n) = 76

-- the byte that a line begins with
unfoldable pub line_byte : Line → ℕ
line_byte Header = 80
line_byte Var = 86
line_byte (Block n) = 84
line_byte EndVar = 69
line_byte (Says i) = operator_byte i
line_byte EndProgram = 69
line_byte Unknown = 0

-- l begins with R or S
abbrev pub Stores : List ℕ → Type 0
Stores l = (82 ≤ get_or l 0 0) × (get_or l 0 0 ≤ 83)

-- l begins with RT or ST
abbrev pub Puts : List ℕ → Type 0
Puts l = Stores l × (get_or l 1 0 ≡ 84)

-- l begins with none of A, L, R and S
abbrev pub Others : List ℕ → Type 0
Others l = (get_or l 0 0 ≢ 65) × (get_or l 0 0 ≢ 76) × (82 ≤ get_or l 0 0 → 84 ≤ get_or l 0 0)
