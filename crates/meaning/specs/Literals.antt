-- What a literal stands for, and when it holds.
use Rattle.std.specs.Prelude.{ℕ, ◌+◌, ◌-◌, ◌/◌, ◌%◌, ◌^◌, Bool, true, false, ◌&&◌, cond, leb, eqb, ℤ, pos, negsuc}
use Rattle.std.specs.Prelude.{nat_abs}
use Rattle.std.specs.Bool.{beq}
use Rattle.meaning.specs.Rows.{every}
use Rattle.meaning.specs.Tables.{Tables, most_inputs, most_timers, literal_places, literal}
use Rattle.meaning.specs.declared.Kind.{Kind}
use Rattle.meaning.specs.declared.Kind.TheVariants.{Unused, Input, Timer, Unknown}

-- a to b, both included
abbrev pub between : ℕ → ℕ → ℕ → Bool
between a b n = leb a n && leb n b

-- "101 to 132 a timer": a timer's literal is this much more than its number
abbrev pub timer_offset : ℕ
timer_offset = 100

-- "1 to 64 is an input, 101 to 132 a timer"; "0 is an unused place"
unfoldable pub kind_of : ℕ → Kind
kind_of n =
    cond (eqb n 0) Unused
    (cond (between 1 most_inputs n) (Input n)
    (cond (between (timer_offset + 1) (timer_offset + most_timers) n) (Timer (n - timer_offset)) Unknown))

-- "a negative number asks for the same thing to be off"
unfoldable pub wanted : ℤ → Bool
wanted (pos n) = true
wanted (negsuc n) = false

-- a setting: which inputs are on, and which timers are expired
pub record Setting : Type 0 where
  pub input : ℕ → Bool
  pub expired : ℕ → Bool

-- Unknown is never asked: LITERAL refuses it first
unfoldable pub holds_as : Setting → Bool → Kind → Bool
holds_as v w Unused = true
holds_as v w (Input i) = beq w (v.input i)
holds_as v w (Timer t) = beq w (v.expired t)
holds_as v w Unknown = false

unfoldable pub holds : Setting → ℤ → Bool
holds v z = holds_as v (wanted z) (kind_of (nat_abs z))

-- "No literals means always."
unfoldable pub literals_hold : Tables → Setting → ℕ → Bool
literals_hold c v i = every (λ j. holds v (literal c i j)) 0 literal_places

-- "Input words are 64 bits, input i the bit of weight 2^(i-1)": they count from 1, and input 0 is never asked
unfoldable pub input_on : ℕ → ℕ → Bool
input_on x i = eqb (x / 2 ^ (i - 1) % 2) 1
