-- What a bare field comes to where it is taken whole: the run of its bytes with its number, and the place of what ends it. Where
-- there is none the field is read byte after byte.
use Rattle.std.specs.Prelude.{ℕ, ◌+◌, ◌*◌, ◌-◌, ◌/◌, Bool, true, ◌&&◌, cond, List, [], ◌∷◌, length, drop, get_or, leb, ltb, eqb, Some, None, Option, option_map}
use Rattle.csv_value.specs.Decimals.{encoded}
use Rattle.csv_bare.specs.declared.BareNumber.{BareNumber}

abbrev pub run : ℕ → ℕ → BareNumber
run i n = record { end = i; value = n }

-- whether b takes the number n on: a digit, after no leading 0, and whatever digit it is the limit holds
abbrev pub takes_digit : ℕ → ℕ → ℕ → Bool
takes_digit limit n b = leb 48 b && (leb b 57 && (ltb 0 n && ltb n (limit / 10)))

-- the bytes l, which stand at i, after the number n
unfoldable pub digits_from : ℕ → List ℕ → ℕ → ℕ → BareNumber
digits_from limit [] i n = run i n
digits_from limit (b ∷ l) i n = cond (takes_digit limit n b) (digits_from limit l (i + 1) (10 * n + (b - 48))) (run i n)

abbrev pub negated : BareNumber → BareNumber
negated u = run u.end (encoded true u.value)

-- whether b is a first digit, from the least one on
abbrev pub first : ℕ → ℕ → ℕ → Bool
first least limit b = leb least b && (leb b 57 && leb (b - 48) limit)

-- the number whose first digit stands at i
unfoldable pub number_from : ℕ → ℕ → List ℕ → ℕ → Option BareNumber
number_from least limit bytes i = cond (ltb i (length bytes) && first least limit (get_or bytes i 0))
    (Some (digits_from limit (drop (i + 1) bytes) (i + 1) (get_or bytes i 0 - 48))) None

-- at a minus the number that follows it: "no .. -0"
unfoldable pub bare_from : ℕ → ℕ → List ℕ → ℕ → Option BareNumber
bare_from most below bytes i = cond (eqb (get_or bytes i 0) 45) (option_map negated (number_from 49 below bytes (i + 1))) (number_from 48 most bytes i)

-- a CR at end, and LF after it
abbrev pub returns : List ℕ → ℕ → Bool
returns bytes end = ltb (end + 1) (length bytes) && (eqb (get_or bytes end 0) 13 && eqb (get_or bytes (end + 1) 0) 10)

-- "record of wrong field count": a comma has fields after it, the record's end has none
unfoldable pub end_from : ℕ → List ℕ → ℕ → Option ℕ
end_from left bytes end = cond (ltb end (length bytes))
    (cond (eqb (get_or bytes end 0) 44) (cond (ltb 0 left) (Some end) None)
    (cond (ltb 0 left) None (cond (eqb (get_or bytes end 0) 10) (Some end) (cond (returns bytes end) (Some (end + 1)) None)))) None
