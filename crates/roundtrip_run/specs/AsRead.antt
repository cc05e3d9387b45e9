-- What the run of a chart's words leaves in the results.
use Rattle.std.specs.Prelude.{◌≡◌, List, map, ℕ}
use Rattle.meaning.specs.Tables.{Tables}
use Rattle.meaning.specs.Machine.{Seen}
use Rattle.meaning.specs.History.{history_reading}
use Rattle.meaning.specs.Written.{program}
use Rattle.format.specs.Words.{words}

-- the words of a chart's program
abbrev pub chart_words : Tables → List ℕ
chart_words c = words (program c)

-- the leaves and outputs of scans on xs from cleared memory
pub record AsRead (c : Tables) (xs ls os : List ℕ) : Type 0 where
  pub leaves : ls ≡ map (λ (e : Seen). e.leaf) (history_reading c xs)
  pub outputs : os ≡ map (λ (e : Seen). e.outputs) (history_reading c xs)
