-- Words of numbers, one a state: what is paired with the state itself, and what with a state at or above it.
use Rattle.std.specs.Prelude.{◌≡◌, ℕ, suc, ◌<◌, ◌≤◌, Bool, ◌&&◌, List, length, get_or, eqb}
use Rattle.meaning.specs.Rows.{some}
use Rattle.meaning.specs.Tables.{Tables, most_states, state_count, pair_count, pair_number, pair_state}
use Rattle.meaning.specs.Hierarchy.{paired}
use Rattle.meaning.specs.Literals.{input_on}
use Rattle.meaning.specs.Rules.{HierarchyRule}

-- what is asked of the states: there are few, and their super-states lead to the root
pub record Tree (c : Tables) : Type 0 where
  pub few : state_count c ≤ most_states
  pub hierarchy : (s : ℕ) → s < state_count c → HierarchyRule c s

-- row i pairs n with l
abbrev pub row_at : List ℕ → ℕ → ℕ → ℕ → Bool
row_at ps n l i = eqb (pair_number ps i) n && eqb (pair_state ps i) l

-- some row does
abbrev pub own : List ℕ → ℕ → ℕ → Bool
own ps n l = some (row_at ps n l) 0 (pair_count ps)

-- the words have what is paired with each state itself
abbrev pub Own : List ℕ → List ℕ → Type 0
Own ps ws = (n l : ℕ) → 1 ≤ n → n ≤ 64 → l < length ws → input_on (get_or ws l 0) n ≡ own ps n l

-- words that have no number yet
abbrev pub Clear : List ℕ → Type 0
Clear ws = (l : ℕ) → get_or ws l 0 ≡ 0

-- each state's word has the bit of each timer or output that is paired with it or with a state above it
abbrev pub PairedWords : Tables → List ℕ → List ℕ → Type 0
PairedWords c ps ws = (s n : ℕ) → s < state_count c → n < 64 → input_on (get_or ws s 0) (suc n) ≡ paired c ps (suc n) s

-- the states below s are done, and the others have their own numbers only
abbrev pub Upto : Tables → List ℕ → List ℕ → ℕ → Type 0
Upto c ps ws s = ((n l : ℕ) → 1 ≤ n → n ≤ 64 → l < s → l < state_count c → input_on (get_or ws l 0) n ≡ paired c ps n l)
    × ((n l : ℕ) → 1 ≤ n → n ≤ 64 → s ≤ l → l < length ws → input_on (get_or ws l 0) n ≡ own ps n l)
