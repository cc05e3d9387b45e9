-- What a move needs on and what it needs off, and when two moves clash: document 02, Ask 2.
--
-- How a reviewer checks two moves of a chart whose literals pass, by hand. First the sources: if neither is at or above
-- the other, the moves do not overlap. Else write beside each move what its positive literals name (it needs these on)
-- and what its negative literals name (it needs these off). Look for a thing that stands under "on" of the one and
-- under "off" of the other, one way and then the other way. If there is one, the moves clash: no setting enables both.
-- If there is none they overlap: with on what stands under "on" of either, and all else off, both are enabled.
-- Document 01's case (g): "1 to 2 on [2]" needs input 2 on and nothing off, "3 to 4 on [1]" needs input 1 on and
-- nothing off; state 1 is above state 3, and nothing meets: with inputs 1 and 2 on both are enabled in state 3. In
-- case (e) the move from 3 to 4 is on [1,-2]: it needs input 2 off, which the move from 1 to 2 needs on: a clash.
use Rattle.std.specs.Prelude.{ℕ, max, Bool, true, false, ◌&&◌, ◌||◌, eqb, nat_abs}
use Rattle.std.specs.Bool.{beq}
use Rattle.meaning.specs.Rows.{some}
use Rattle.meaning.specs.Tables.{Tables, most_inputs, most_timers, literal_places, literal, source}
use Rattle.meaning.specs.Literals.{kind_of, wanted, Setting}
use Rattle.meaning.specs.declared.Kind.{Kind}
use Rattle.meaning.specs.declared.Kind.TheVariants.{Unused, Input, Timer, Unknown}

-- a set of the things that literals name; inputs and timers are apart, input 1 is not timer 1
pub record Things : Type 0 where
  pub inputs : ℕ → Bool
  pub timers : ℕ → Bool

abbrev pub no_things : Things
no_things = record { inputs = λ n. false; timers = λ t. false }

-- what a literal of this kind names; Unknown is never asked: LITERAL refuses it first
unfoldable pub named : Kind → Things
named Unused = no_things
named (Input i) = record { inputs = λ n. eqb i n; timers = λ t. false }
named (Timer i) = record { inputs = λ n. false; timers = λ t. eqb i t }
named Unknown = no_things

-- what the literal in place j of move i names
abbrev pub named_at : Tables → ℕ → ℕ → Things
named_at c i j = named (kind_of (nat_abs (literal c i j)))

-- and whether it wants that on (w is true) or off (w is false): "a negative number asks for the same thing to be off"
abbrev pub wants : Tables → ℕ → ℕ → Bool → Bool
wants c i j w = beq (wanted (literal c i j)) w

-- what the first k literals of move i need on, or need off
unfoldable pub needed_by : Tables → ℕ → ℕ → Bool → Things
needed_by c i k w = record {
  inputs = λ n. some (λ j. wants c i j w && (named_at c i j).inputs n) 0 k;
  timers = λ t. some (λ j. wants c i j w && (named_at c i j).timers t) 0 k;
}

-- "what each move needs on": what its positive literals name
abbrev pub needs_on : Tables → ℕ → Things
needs_on c i = needed_by c i literal_places true

-- "and what it needs off": what its negative literals name
abbrev pub needs_off : Tables → ℕ → Things
needs_off c i = needed_by c i literal_places false

-- some input or some timer is in both sets
unfoldable pub meet : Things → Things → Bool
meet a b = some (λ n. a.inputs n && b.inputs n) 1 most_inputs || some (λ t. a.timers t && b.timers t) 1 most_timers

-- "a clash where one's on meets the other's off", whichever of the two the one is
unfoldable pub clash : Tables → ℕ → ℕ → Bool
clash c i j = meet (needs_on c i) (needs_off c j) || meet (needs_on c j) (needs_off c i)

-- ---- a setting for two moves that do not clash

-- what is in one of two sets
abbrev pub union : Things → Things → Things
union a b = record { inputs = λ n. a.inputs n || b.inputs n; timers = λ t. a.timers t || b.timers t }

-- what two moves need on, together, and what they need off
abbrev pub both_on : Tables → ℕ → ℕ → Things
both_on c i j = union (needs_on c i) (needs_on c j)

abbrev pub both_off : Tables → ℕ → ℕ → Things
both_off c i j = union (needs_off c i) (needs_off c j)

-- the setting in which these are on, and nothing else is
abbrev pub just_on : Things → Setting
just_on s = record { input = s.inputs; expired = s.timers }

-- the lower of two sources of which one is at or above the other: "Every other super-state has a smaller number than
-- its sub-state."
abbrev pub lower : Tables → ℕ → ℕ → ℕ
lower c i j = max (source c i) (source c j)
