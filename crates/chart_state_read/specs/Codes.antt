-- The codes and the values of a lent chart state, in the arrays that they are read into.
use Rattle.std.specs.Prelude.{◌≡◌, ℕ, zero, suc, ◌-◌, ◌≤◌, ◌<◌, true, false, cond, List, [], ◌∷◌, ◌++◌, length, get_or}
use Rattle.meaning.specs.Rows.{least}
use Rattle.meaning.specs.Tables.{Tables, state_count}
use Rattle.meaning.specs.Hierarchy.{is_leaf, sub_state}
use Rattle.meaning.specs.Layout.{code}
use Rattle.meaning.specs.Machine.{remembered}
use Rattle.meaning.specs.Lent.{coded, lent_code, state_of}
use Rattle.check_pairing.specs.Words.{PairedWords}
use Rattle.chart_scan.specs.Held.{held}

-- what the lent slice l gives state a to remember
abbrev pub entry_of : Tables → List ℕ → ℕ → ℕ
entry_of c l a = cond (is_leaf c a) 0 (least (coded c a (lent_code c l a)) 0 (state_count c))

-- each sub-state's code stands in cs
abbrev pub CodesStand : Tables → List ℕ → Type 0
CodesStand c cs = (a s : ℕ) → a < state_count c → sub_state c a s ≡ true → get_or cs s 0 ≡ code c s

-- the codes in the slice l, of the super-states below n
abbrev pub Wanted : Tables → List ℕ → ℕ → List ℕ → Type 0
Wanted c l n ws = (a : ℕ) → a < n → is_leaf c a ≡ false → get_or ws a 0 ≡ lent_code c l a

-- what the states from i on give each state to remember; a super-state for which there is none yet has the number of states
abbrev pub found_from : Tables → List ℕ → ℕ → ℕ → ℕ
found_from c l i a = cond (is_leaf c a) 0 (least (coded c a (lent_code c l a)) i (state_count c - i))

abbrev pub Found : Tables → List ℕ → ℕ → List ℕ → Type 0
Found c l i m = (a : ℕ) → a < state_count c → get_or m a 0 ≡ found_from c l i a

-- the code that stands in the slice for state a, from an array of codes and one of what is remembered: none for a leaf
abbrev pub code_in : Tables → List ℕ → List ℕ → ℕ → List ℕ
code_in c cs m a = cond (is_leaf c a) [] (get_or cs (remembered m a) 0 ∷ [])

-- the codes of the states below n
unfoldable pub codes_in : Tables → List ℕ → List ℕ → ℕ → List ℕ
codes_in c cs m zero = []
codes_in c cs m (suc n) = codes_in c cs m n ++ code_in c cs m n

-- room for a chart's state, with nothing in it
pub record StateRoom (c : Tables) (wants memory timers runs : List ℕ) : Type 0 where
  pub wants_room : state_count c ≤ length wants
  pub memory_room : state_count c ≤ length memory
  pub timers_room : length timers ≡ 32
  pub runs_room : state_count c ≤ length runs
  pub no_memory : (s : ℕ) → get_or memory s 0 ≡ 0
  pub no_runs : (s : ℕ) → get_or runs s 0 ≡ 0

-- the state that the slice l stands for, and of each state the timers that run in it
pub record StateDecoded (c : Tables) (l memory timers runs : List ℕ) : Type 0 where
  pub state : held c memory timers ≡ state_of c l
  pub running : PairedWords c c.timer_pairs runs
