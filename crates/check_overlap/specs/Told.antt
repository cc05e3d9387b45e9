-- What the search for an earlier move tells.
use Rattle.std.specs.Prelude.{◌≡◌, ℕ, ◌<◌, MatchOption, Option}
use Rattle.meaning.specs.Tables.{Tables}
use Rattle.meaning.specs.Check.{earlier}

-- the least earlier move that overlaps move i, if there is one
abbrev pub EarlierTold : Tables → ℕ → Option ℕ → Type 0
EarlierTold c i r = MatchOption r (earlier c i ≡ i) (λ j. (j < i) × (j ≡ earlier c i))
