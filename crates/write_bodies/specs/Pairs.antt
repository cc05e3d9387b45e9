-- The rows of a pair table that stand together, and the OR of their states.
use Rattle.std.specs.Prelude.{◌≡◌, ◌≢◌, ℕ, ◌≤◌, ◌<◌}
use mathlib.Core.List.{List, map, flat_map}
use Rattle.meaning.specs.Rows.{table}
use Rattle.meaning.specs.Tables.{Tables, state_count, pair_count, pair_number, pair_state}
use Rattle.meaning.specs.Rules.{PairRule}
use Rattle.meaning.specs.Programs.{Test, bracket, part_of, body_of}
use Rattle.meaning.specs.Written.{state_tests, chain, or_body}
use Rattle.meaning.specs.declared.Operator.{Operator}

-- the states of these rows are states
abbrev pub Known : Tables → List ℕ → ℕ → ℕ → Type 0
Known c ps from to = (i : ℕ) → from ≤ i → i < to → pair_state ps i < state_count c

-- OR( and ) around a state
unfoldable pub bracket_of : List Test → List Operator
bracket_of ts = part_of (bracket (chain ts))

-- a bracket for the state of each of n rows
unfoldable pub brackets : Tables → List ℕ → ℕ → ℕ → List Operator
brackets c ps from n = flat_map (λ i. bracket_of (state_tests c (pair_state ps i))) (table (λ i. i) from n)

-- the OR of the states of n rows
unfoldable pub or_of : Tables → List ℕ → ℕ → ℕ → List Operator
or_of c ps from n = body_of (or_body (map (state_tests c) (table (pair_state ps) from n)))

-- the rows from one on up to another are for n, and the next is not
pub record PairsRun (ps : List ℕ) (n from to : ℕ) : Type 0 where
  pub rises : from ≤ to
  pub within : from ≤ pair_count ps → to ≤ pair_count ps
  pub same : (i : ℕ) → from ≤ i → i < to → pair_number ps i ≡ n
  pub stop : to < pair_count ps → pair_number ps to ≢ n

-- a pair table that keeps its rule
abbrev pub Pairs : Tables → ℕ → List ℕ → Type 0
Pairs c many ps = (i : ℕ) → i < pair_count ps → PairRule c many ps i

-- the rows for n, if there are any, start here
pub record Reaches (ps : List ℕ) (n row : ℕ) : Type 0 where
  pub within : row ≤ pair_count ps
  pub before : (i : ℕ) → i < row → pair_number ps i < n
  pub rest : (i : ℕ) → row ≤ i → i < pair_count ps → n ≤ pair_number ps i
