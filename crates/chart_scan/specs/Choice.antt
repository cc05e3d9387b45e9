-- What the literals read, and the moves of a state: which of them is chosen.
use Rattle.std.specs.Prelude.{◌≡◌, ℕ, zero, suc, ◌+◌, ◌<◌, ◌&&◌, cond, List, get_or, eqb, Option, MatchOption}
use Rattle.std.specs.Option.{option_map_or, unwrap_or}
use Rattle.meaning.specs.Tables.{Tables, source, move_count}
use Rattle.meaning.specs.Literals.{Setting, literals_hold}
use Rattle.meaning.specs.Needs.{just_on}
use Rattle.check_needs.specs.declared.ThingWords.{ThingWords}
use Rattle.check_needs.specs.Words.{set_of, hold_words, needs_at}
use Rattle.check_needs.specs.WordsLaws.{Small}

-- what the literals read, where these things are on and no others
abbrev pub read : ThingWords → Setting
read v = just_on (set_of v)

-- the moves below n hold by their words in l exactly where their literals hold
abbrev pub HoldTo : Tables → ℕ → List ℕ → Type 0
HoldTo c n l = (i : ℕ) (v : ThingWords) → i < n → Small v → hold_words (needs_at l i) v ≡ literals_hold c (read v) i

-- the last of the moves below n with the source s, counted from 1; 0 if there is none
unfoldable pub last_from : Tables → ℕ → ℕ → ℕ
last_from c s zero = 0
last_from c s (suc n) = cond (eqb (source c n) s) (suc n) (last_from c s n)

-- a move, if there is one, as it is counted from 1; 0 if there is none
abbrev pub counted : Option ℕ → ℕ
counted r = option_map_or suc r 0

-- a move, if there is one; the number of moves if there is none
abbrev pub move_of : Tables → Option ℕ → ℕ
move_of c r = unwrap_or r (move_count c)

-- it is move x, or none where x is the number of moves
abbrev pub MoveIs : Tables → ℕ → Option ℕ → Type 0
MoveIs c x r = MatchOption r (x ≡ move_count c) (λ i. (i < move_count c) × (i ≡ x))

-- the last of them whose literals hold
unfoldable pub last_holding : Tables → Setting → ℕ → ℕ → ℕ
last_holding c v s zero = 0
last_holding c v s (suc n) = cond (eqb (source c n) s && literals_hold c v n) (suc n) (last_holding c v s n)

-- the moves below n are linked in l: the last from each state, and behind those, of each move, the one before it from the same state
abbrev pub LinkedTo : Tables → ℕ → List ℕ → Type 0
LinkedTo c n l = ((s : ℕ) → s < 256 → get_or l s 0 ≡ last_from c s n) × ((k : ℕ) → k < n → get_or l (256 + k) 0 ≡ last_from c (source c k) k)
