-- What a field is when it ends, and where in a record its reader stands.
use Rattle.std.specs.Prelude.{ℕ, ◌-◌, Bool, true, false, cond, ltb, ℤ, pos, negsuc, Some, None, Option}
use Rattle.csv_field.specs.declared.FieldPhase.{FieldPhase}
use Rattle.csv_field.specs.declared.FieldPhase.TheVariants.{Fresh, Empty, Quote, Minus, Number, Closed, Return, Bad}
use Rattle.csv_field.specs.Field.{most64}

-- a negative number is stored as its 64-bit two's complement
abbrev pub encoded : Bool → ℕ → ℕ
encoded negative n = cond negative (most64 - (n - 1)) n

-- what the field is, if it ends here
unfoldable pub decimal_of : FieldPhase → (Option ℕ)
decimal_of Fresh = None
decimal_of Empty = None
decimal_of Quote = None
decimal_of (Minus quoted) = None
decimal_of (Number quoted negative n) = cond quoted None (Some (encoded negative n))
decimal_of (Closed negative n) = Some (encoded negative n)
decimal_of Return = None
decimal_of Bad = None

abbrev pub returned : FieldPhase → Bool
returned Fresh = false
returned Empty = false
returned Quote = false
returned (Minus quoted) = false
returned (Number quoted negative n) = false
returned (Closed negative n) = false
returned Return = true
returned Bad = false

abbrev pub untouched : FieldPhase → Bool
untouched Fresh = true
untouched Empty = false
untouched Quote = false
untouched (Minus quoted) = false
untouched (Number quoted negative n) = false
untouched (Closed negative n) = false
untouched Return = false
untouched Bad = false

-- a field begins here
abbrev pub begins : FieldPhase → Bool
begins Fresh = true
begins Empty = true
begins Quote = false
begins (Minus quoted) = false
begins (Number quoted negative n) = false
begins (Closed negative n) = false
begins Return = false
begins Bad = false

abbrev pub failed : FieldPhase → Bool
failed Fresh = false
failed Empty = false
failed Quote = false
failed (Minus quoted) = false
failed (Number quoted negative n) = false
failed (Closed negative n) = false
failed Return = false
failed Bad = true

-- a stored number of 16 bits with its sign; 0 stands for what is none
unfoldable pub signed_of : ℕ → ℤ
signed_of n = cond (ltb n 32768) (pos n) (cond (ltb n 18446744073709518848) (pos 0) (negsuc (most64 - n)))
