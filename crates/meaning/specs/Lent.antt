-- A chart state as it is lent: one slice, a code for each super-state by rising number, then a value for each timer.
use Rattle.std.specs.Prelude.{ℕ, zero, suc, ◌+◌, ◌*◌, ◌%◌, Bool, ◌&&◌, ◌||◌, not, cond, List, [], ◌∷◌, ◌++◌, length}
use Rattle.std.specs.Prelude.{get_or, drop, leb, eqb}
use Rattle.meaning.specs.Rows.{least, some, every, count, table}
use Rattle.meaning.specs.Tables.{Tables, state_count, timer_count, preset_steps}
use Rattle.meaning.specs.Hierarchy.{sub_state, is_leaf, timer_runs}
use Rattle.meaning.specs.Layout.{code}
use Rattle.meaning.specs.Machine.{State, remembered, timer_value, active_leaf}

unfoldable pub super_states_below : Tables → ℕ → ℕ
super_states_below c n = count (λ a. not (is_leaf c a)) n

unfoldable pub lent_length : Tables → ℕ
lent_length c = super_states_below c (state_count c) + timer_count c

-- s is the sub-state of a with code k
unfoldable pub coded : Tables → ℕ → ℕ → ℕ → Bool
coded c a k s = sub_state c a s && eqb (code c s) k

-- what stands in the slice for the super-state a
unfoldable pub lent_code : Tables → List ℕ → ℕ → ℕ
lent_code c l a = get_or l (super_states_below c a) 0

-- what each super-state remembers: the sub-state with the code that is lent (the number of states, which is no state,
-- if it is nobody's code: such a slice does not pass)
unfoldable pub lent_memory : Tables → List ℕ → List ℕ
lent_memory c l =
    table (λ a. cond (is_leaf c a) 0 (least (coded c a (lent_code c l a)) 0 (state_count c))) 0 (state_count c)

-- the state that a slice stands for
unfoldable pub state_of : Tables → List ℕ → State
state_of c l = record { memory = lent_memory c l; timers = drop (super_states_below c (state_count c)) l }

-- the codes of the super-states from a on, of n states
unfoldable pub lent_codes : Tables → List ℕ → ℕ → ℕ → List ℕ
lent_codes c m a zero = []
lent_codes c m a (suc n) = cond (is_leaf c a) [] (code c (remembered m a) ∷ []) ++ lent_codes c m (suc a) n

-- the slice that stands for a state
unfoldable pub lent_of : Tables → State → List ℕ
lent_of c s = lent_codes c s.memory 0 (state_count c) ++ s.timers

unfoldable pub code_passes : Tables → List ℕ → ℕ → Bool
code_passes c l a = is_leaf c a || some (coded c a (lent_code c l a)) 0 (state_count c)

-- "timer not a whole number of scan steps from 0 to N, or not 0 while idle"
unfoldable pub timer_passes : Tables → State → ℕ → Bool
timer_passes c s t = let v = timer_value s.timers t in
    eqb (v % c.scan_step) 0 && leb v (preset_steps c t * c.scan_step)
    && (timer_runs c t (active_leaf c s.memory) || eqb v 0)

-- 14 STATE is given for a lent chart state that does not pass: "wrong length, code of no sub-state", and the timers
unfoldable pub state_passes : Tables → List ℕ → Bool
state_passes c l = eqb (length l) (lent_length c) && every (code_passes c l) 0 (state_count c)
    && every (timer_passes c (state_of c l)) 1 (timer_count c)
