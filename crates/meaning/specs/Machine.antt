-- What a chart does: document 01, "Meaning of a chart".
use Rattle.std.specs.Prelude.{◌≡◌, ℕ, zero, suc, ◌+◌, ◌*◌, ◌-◌, ◌≤◌, ◌<◌, min, Bool, true, false, ◌&&◌, cond, List, []}
use Rattle.std.specs.Prelude.{◌∷◌, length, get_or, leb, ltb}
use Rattle.meaning.specs.Rows.{least, table}
use Rattle.meaning.specs.Tables.{Tables, most_depth, state_count, move_count, timer_count, initial, source, target}
use Rattle.meaning.specs.Tables.{mark, preset, preset_steps}
use Rattle.meaning.specs.Hierarchy.{depth, at_or_above, above, on_the_way, is_leaf, timer_runs, output_on}
use Rattle.meaning.specs.Literals.{Setting, literals_hold, input_on}
use Rattle.meaning.specs.Rules.{SubState, Leaf}

-- "Each super-state remembers one sub-state": an entry a state, a leaf's is 0; and a value a timer
pub record State : Type 0 where
  pub memory : List ℕ
  pub timers : List ℕ

unfoldable pub remembered : List ℕ → ℕ → ℕ
remembered m a = get_or m a 0

-- timers count from 1, and timer 0 is never asked
unfoldable pub timer_value : List ℕ → ℕ → ℕ
timer_value ts t = get_or ts (t - 1) 0

-- from s down, k levels at most, by the sub-states that m gives
unfoldable pub descend : Tables → (ℕ → ℕ) → ℕ → ℕ → ℕ
descend c m zero s = s
descend c m (suc k) s = elim (is_leaf c s) [ true ↦ s | false ↦ descend c m k (m s) ]

-- the leaf reached from s
unfoldable pub follow : Tables → (ℕ → ℕ) → ℕ → ℕ
follow c m s = descend c m (most_depth - depth c s) s

-- "Following these from the root gives the active path and the active leaf."
unfoldable pub active_leaf : Tables → List ℕ → ℕ
active_leaf c m = follow c (remembered m) 0

-- "A move is enabled when its source is on the path and its literals hold."
unfoldable pub enabled : Tables → Setting → ℕ → ℕ → Bool
enabled c v l i = at_or_above c (source c i) l && literals_hold c v i

-- the least enabled move (an accepted chart has one at most), or the number of moves if there is none
unfoldable pub chosen : Tables → Setting → ℕ → ℕ
chosen c v l = least (enabled c v l) 0 (move_count c)

-- where a mark leads from the target down: mark 0 to the initial sub-states, mark 1 to those remembered
unfoldable pub leads_below : Tables → ℕ → (ℕ → ℕ) → ℕ → ℕ
leads_below c zero m a = initial c a
leads_below c (suc k) m a = m a

-- a is on the way from t to the leaf that g leads to
unfoldable pub reached : Tables → (ℕ → ℕ) → ℕ → ℕ → Bool
reached c g t a = at_or_above c t a && at_or_above c a (follow c g t)

-- what a remembers once t is entered and g has led on from there: "A move sets every super-state above its target to
-- lead to the target."; "Mark 0: the target, if a super-state, and those reached below it by initial sub-states are set
-- to initial."; with mark 1 g is m, so that nothing at or below t changes; "All other memories stay."
unfoldable pub remembers_after : Tables → (ℕ → ℕ) → (ℕ → ℕ) → ℕ → ℕ → ℕ
remembers_after c g m t a = cond (above c a t) (on_the_way c a t) (cond (reached c g t a) (g a) (m a))

-- the memory after move i
unfoldable pub memory_after_move : Tables → ℕ → List ℕ → List ℕ
memory_after_move c i m =
    table (remembers_after c (leads_below c (mark c i) (remembered m)) (remembered m) (target c i)) 0 (state_count c)

-- "It is expired when it runs and is at least its preset."
unfoldable pub timer_expired : Tables → ℕ → List ℕ → ℕ → Bool
timer_expired c l ts t = timer_runs c t l && leb (preset c t) (timer_value ts t)

-- The value as it is stored: "after a step it grows by the scan step if it ran before and runs after, else it is 0";
-- "A stored timer value stops growing at N scan steps."
unfoldable pub timer_after : Tables → ℕ → ℕ → List ℕ → ℕ → ℕ
timer_after c l l' ts t =
    cond (timer_runs c t l && timer_runs c t l')
    (min (timer_value ts t + c.scan_step) (preset_steps c t * c.scan_step))
    0

-- "at first its initial one"; "It is 0 at the start"
unfoldable pub start_state : Tables → State
start_state c = record { memory = table (initial c) 0 (state_count c); timers = table (λ t. 0) 1 (timer_count c) }

-- what the literals read before a step
unfoldable pub setting : Tables → ℕ → State → Setting
setting c x s = record { input = input_on x; expired = timer_expired c (active_leaf c s.memory) s.timers }

-- "with none, the state stays"
unfoldable pub memory_after_step : Tables → ℕ → State → List ℕ
memory_after_step c x s =
    let i = chosen c (setting c x s) (active_leaf c s.memory) in
    cond (ltb i (move_count c)) (memory_after_move c i s.memory) s.memory

-- the state after one step with the input word x
unfoldable pub state_after_step : Tables → ℕ → State → State
state_after_step c x s =
    let m : List ℕ = memory_after_step c x s in
    record {
      memory = m;
      timers = table (timer_after c (active_leaf c s.memory) (active_leaf c m) s.timers) 1 (timer_count c);
    }

-- the word that has these bits, lowest first
unfoldable pub word_of : List Bool → ℕ
word_of [] = 0
word_of (b ∷ bs) = cond b 1 0 + 2 * word_of bs

-- what is seen after a scan: the leaf and the output word
pub record Seen : Type 0 where
  pub leaf : ℕ
  pub outputs : ℕ

-- "Output words are made the same way"
unfoldable pub seen_at_leaf : Tables → ℕ → Seen
seen_at_leaf c l = record { leaf = l; outputs = word_of (table (λ o. output_on c o l) 1 c.outputs) }

-- what is seen in the state s
unfoldable pub seen_in : Tables → State → Seen
seen_in c s = seen_at_leaf c (active_leaf c s.memory)

-- what is seen after each scan
unfoldable pub trace : Tables → State → List ℕ → List Seen
trace c s [] = []
trace c s (x ∷ xs) = seen_in c (state_after_step c x s) ∷ trace c (state_after_step c x s) xs

-- the state after the last scan
unfoldable pub state_after_scans : Tables → State → List ℕ → State
state_after_scans c s [] = s
state_after_scans c s (x ∷ xs) = state_after_scans c (state_after_step c x s) xs

-- the states that a machine can be lent in
pub record Valid (c : Tables) (s : State) : Type 0 where
  pub entries : length s.memory ≡ state_count c
  pub leads : (a : ℕ) → a < state_count c → (Leaf c a → ⊥) → SubState c a (remembered s.memory a)
  pub leaf_entries : (a : ℕ) → a < state_count c → Leaf c a → remembered s.memory a ≡ 0
  pub values : length s.timers ≡ timer_count c
  pub whole : (t : ℕ) → 1 ≤ t → t ≤ timer_count c
      → (k : ℕ) × (k ≤ preset_steps c t) × (timer_value s.timers t ≡ k * c.scan_step)
  pub idle : (t : ℕ) → 1 ≤ t → t ≤ timer_count c
      → timer_runs c t (active_leaf c s.memory) ≡ false → timer_value s.timers t ≡ 0
