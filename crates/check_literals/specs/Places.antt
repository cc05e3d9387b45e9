-- What the first places of a move need, and whether one of them is unused.
use Rattle.std.specs.Prelude.{◌≡◌, ℕ, ◌<◌, Bool, true, false, ◌&&◌, ◌||◌, eqb, nat_abs}
use Rattle.std.specs.Bool.{beq}
use Rattle.meaning.specs.Rows.{some}
use Rattle.meaning.specs.Tables.{Tables, move_count, literal}
use Rattle.meaning.specs.Literals.{input_on}
use Rattle.meaning.specs.Needs.{named}
use Rattle.meaning.specs.Check.{literal_passes}
use Rattle.meaning.specs.declared.Kind.{Kind}
use Rattle.meaning.specs.declared.Kind.TheVariants.{Unused, Input, Timer, Unknown}
use Rattle.check_needs.specs.declared.ThingWords.{ThingWords}
use Rattle.check_needs.specs.Words.{WordBits, NeedWords}
use Rattle.check_literals.specs.declared.PlacesSoFar.{PlacesSoFar}

abbrev pub is_unused : Kind → Bool
is_unused Unused = true
is_unused (Input i) = false
is_unused (Timer t) = false
is_unused Unknown = false

-- one of the first k places of move i is unused
abbrev pub some_unused : Tables → ℕ → ℕ → Bool
some_unused c i k = some (λ j. eqb (nat_abs (literal c i j)) 0) 0 k

-- a has what the first k places of move i need
pub record PlacesRead (c : Tables) (i k : ℕ) (a : PlacesSoFar) : Type 0 where
  pub words : NeedWords c i k a.needs
  pub end : a.ended ≡ some_unused c i k

-- r has what a has, and what a literal of this kind names if `yes`
pub record ThingMore (a : ThingWords) (yes : Bool) (K : Kind) (r : ThingWords) : Type 0 where
  pub inputs : WordBits r.inputs (λ n. input_on a.inputs n || (yes && (named K).inputs n))
  pub timers : WordBits r.timers (λ t. input_on a.timers t || (yes && (named K).timers t))

-- r is a with one place more, of this kind, that wants what it names on or off
pub record PlaceMore (a : PlacesSoFar) (want : Bool) (K : Kind) (r : PlacesSoFar) : Type 0 where
  pub on : ThingMore a.needs.on (beq want true) K r.needs.on
  pub off : ThingMore a.needs.off (beq want false) K r.needs.off
  pub end : r.ended ≡ (a.ended || is_unused K)

-- LITERAL passes every move
abbrev pub LiteralsPass : Tables → Type 0
LiteralsPass c = (i : ℕ) → i < move_count c → literal_passes c i ≡ true
