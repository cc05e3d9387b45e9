-- The rules that a chart's tables must keep, one record a rule, in document 01's words: this is what a reader holds
-- against the document. The tests of Check.antt, which the verdict is computed by, are proved equal to these rules in
-- proofs/Laws/Rules.antt: for any tables, OVERLAP where LITERAL passes.
use Rattle.std.specs.Prelude.{◌≡◌, ◌≢◌, ◌⊎◌, ℕ, suc, ◌%◌, ◌≤◌, ◌<◌, true, List, length, ℤ, pos, nat_abs}
use Rattle.meaning.specs.Tables.{Tables, most_states, most_depth, most_moves, most_inputs, most_outputs, most_timers}
use Rattle.meaning.specs.Tables.{most_flip_flops, most_pairs, most_scan_step, most_preset, state_row, move_row}
use Rattle.meaning.specs.Tables.{pair_row, literal_places}
use Rattle.meaning.specs.Tables.{state_count, move_count, timer_count, pair_count, super_state, initial, cell, source}
use Rattle.meaning.specs.Tables.{target, literal, preset, pair_number, pair_state}
use Rattle.meaning.specs.Hierarchy.{up}
use Rattle.meaning.specs.Layout.{flip_flop_count}
use Rattle.meaning.specs.Literals.{Setting, kind_of, literals_hold}
use Rattle.meaning.specs.declared.Kind.{Kind}
use Rattle.meaning.specs.declared.Kind.TheVariants.{Unused, Input, Timer, Unknown}

-- a is at or above s: super-states, taken 0 to 8 times, lead from s to a; where HIERARCHY passes these are all
abbrev pub AtOrAbove : Tables → ℕ → ℕ → Type 0
AtOrAbove c a s = (k : ℕ) × (k ≤ most_depth) × (up c k s ≡ a)

pub record SubState (c : Tables) (a s : ℕ) : Type 0 where
  pub not_root : s ≢ 0
  pub known : s < state_count c
  pub under : super_state c s ≡ a

abbrev pub Leaf : Tables → ℕ → Type 0
Leaf c s = (t : ℕ) → SubState c s t → ⊥

-- a paired state is at or above the leaf l
pub record TimerRuns (c : Tables) (t l : ℕ) : Type 0 where
  pub row : ℕ
  pub known : row < pair_count c.timer_pairs
  pub timer : pair_number c.timer_pairs row ≡ t
  pub over : AtOrAbove c (pair_state c.timer_pairs row) l

-- 1 SIZE: "slice no whole number of rows, count or scan step beyond its limit, no state"
pub record SizeRule (c : Tables) : Type 0 where
  pub state_rows : length c.states % state_row ≡ 0
  pub move_rows : length c.moves % move_row ≡ 0
  pub timer_pair_rows : length c.timer_pairs % pair_row ≡ 0
  pub output_pair_rows : length c.output_pairs % pair_row ≡ 0
  pub some_state : 1 ≤ state_count c
  pub few_states : state_count c ≤ most_states
  pub few_moves : move_count c ≤ most_moves
  pub few_timers : timer_count c ≤ most_timers
  pub few_timer_pairs : pair_count c.timer_pairs ≤ most_pairs
  pub few_output_pairs : pair_count c.output_pairs ≤ most_pairs
  pub few_inputs : c.inputs ≤ most_inputs
  pub few_outputs : c.outputs ≤ most_outputs
  pub some_step : 1 ≤ c.scan_step
  pub small_step : c.scan_step ≤ most_scan_step

-- 2 HIERARCHY: "State 0 is the root, with super-state 0"; "Every other super-state has a smaller number than its
-- sub-state"; depth at most 8
pub record HierarchyRule (c : Tables) (s : ℕ) : Type 0 where
  pub root : s ≡ 0 → super_state c s ≡ 0
  pub smaller : s ≢ 0 → super_state c s < s
  pub shallow : AtOrAbove c 0 s

-- 3 INITIAL: "not a sub-state of its own, or not 0 at a leaf"
pub record InitialRule (c : Tables) (s : ℕ) : Type 0 where
  pub of_leaf : Leaf c s → initial c s ≡ 0
  pub of_super : (Leaf c s → ⊥) → SubState c s (initial c s)

-- 4 PRESET: "Preset 1 to 86,400,000 ms"; the row of timer t is t - 1
pub record PresetRule (c : Tables) (i : ℕ) : Type 0 where
  pub low : 1 ≤ preset c (suc i)
  pub high : preset c (suc i) ≤ most_preset

-- 5 TIMER PAIR and 6 OUTPUT PAIR, over how many timers or outputs there are: "unknown timer or state, or not above
-- the pair before"
pub record PairRule (c : Tables) (many : ℕ) (ps : List ℕ) (i : ℕ) : Type 0 where
  pub low : 1 ≤ pair_number ps i
  pub high : pair_number ps i ≤ many
  pub state : pair_state ps i < state_count c
  pub ascending : (j : ℕ) → suc j ≡ i
      → (pair_number ps j < pair_number ps i)
      ⊎ ((pair_number ps j ≡ pair_number ps i) × (pair_state ps j < pair_state ps i))

-- a number of the moves table that names a state
abbrev pub KnownState : Tables → ℤ → Type 0
KnownState c z = (s : ℕ) × (z ≡ pos s) × (s < state_count c)

-- 7 MOVE: "unknown source or target, other mark, mark 1 on a leaf"
pub record MoveRule (c : Tables) (i : ℕ) : Type 0 where
  pub from_known : KnownState c (cell c i 0)
  pub to_known : KnownState c (cell c i 1)
  pub marked : (cell c i 2 ≡ pos 0) ⊎ ((cell c i 2 ≡ pos 1) × (Leaf c (target c i) → ⊥))

abbrev pub WithinCounts : Tables → Kind → Type 0
WithinCounts c Unused = Unit {0}
WithinCounts c (Input i) = i ≤ c.inputs
WithinCounts c (Timer t) = t ≤ timer_count c
WithinCounts c Unknown = ⊥

-- 8 LITERAL: "0 is an unused place, and only 0 follows it. No input or timer stands twice in a move."; "or beyond the
-- counts"
pub record LiteralRule (c : Tables) (i : ℕ) : Type 0 where
  pub known : (j : ℕ) → j < literal_places → WithinCounts c (kind_of (nat_abs (literal c i j)))
  pub only_zero : (j k : ℕ) → j < k → k < literal_places → literal c i j ≡ pos 0 → literal c i k ≡ pos 0
  pub once : (j k : ℕ) → j < k → k < literal_places → literal c i k ≢ pos 0
      → nat_abs (literal c i j) ≢ nat_abs (literal c i k)

-- 9 IDLE TIMER, kept: "timer literal, but some leaf at or below the source doesn't run it"
pub record IdleRule (c : Tables) (i : ℕ) : Type 0 where
  pub run : (j t : ℕ) → j < literal_places → kind_of (nat_abs (literal c i j)) ≡ Timer t
      → (l : ℕ) → l < state_count c → Leaf c l → AtOrAbove c (source c i) l → TimerRuns c t l

-- "Two moves overlap when one source is at or above the other and some setting of inputs and of timers, taken as
-- free, makes both enabled."
pub record Overlap (c : Tables) (i j : ℕ) : Type 0 where
  pub near : AtOrAbove c (source c i) (source c j) ⊎ AtOrAbove c (source c j) (source c i)
  pub setting : Setting
  pub one : literals_hold c setting i ≡ true
  pub two : literals_hold c setting j ≡ true

-- 10 OVERLAP, kept: "an earlier move overlaps it"
pub record OverlapRule (c : Tables) (i : ℕ) : Type 0 where
  pub apart : (j : ℕ) → j < i → Overlap c i j → ⊥

-- 11 FLIP-FLOPS: "more than 128"
pub record FlipFlopRule (c : Tables) : Type 0 where
  pub few : flip_flop_count c ≤ most_flip_flops

-- all of them, at every row
pub record Rules (c : Tables) : Type 0 where
  pub size : SizeRule c
  pub hierarchy : (s : ℕ) → s < state_count c → HierarchyRule c s
  pub initials : (s : ℕ) → s < state_count c → InitialRule c s
  pub presets : (i : ℕ) → i < timer_count c → PresetRule c i
  pub timer_pairs : (i : ℕ) → i < pair_count c.timer_pairs → PairRule c (timer_count c) c.timer_pairs i
  pub output_pairs : (i : ℕ) → i < pair_count c.output_pairs → PairRule c c.outputs c.output_pairs i
  pub moves : (i : ℕ) → i < move_count c → MoveRule c i
  pub literals : (i : ℕ) → i < move_count c → LiteralRule c i
  pub idle : (i : ℕ) → i < move_count c → IdleRule c i
  pub overlap : (i : ℕ) → i < move_count c → OverlapRule c i
  pub flip_flop : FlipFlopRule c
