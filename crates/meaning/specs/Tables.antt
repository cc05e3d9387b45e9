-- The tables of a chart as they are lent, flat, and what stands where in them.
use Rattle.std.specs.Prelude.{ℕ, ◌+◌, ◌*◌, ◌-◌, ◌/◌, List, length, get_or, ℤ, pos, nat_abs}

pub record Tables : Type 0 where
  pub scan_step : ℕ
  pub inputs : ℕ
  pub outputs : ℕ
  pub states : List ℕ
  pub moves : List ℤ
  pub presets : List ℕ
  pub timer_pairs : List ℕ
  pub output_pairs : List ℕ

-- "The limits belong to the chart"
abbrev pub most_states : ℕ
most_states = 256

abbrev pub most_depth : ℕ
most_depth = 8

abbrev pub most_moves : ℕ
most_moves = 512

abbrev pub most_inputs : ℕ
most_inputs = 64

abbrev pub most_outputs : ℕ
most_outputs = 64

abbrev pub most_timers : ℕ
most_timers = 32

abbrev pub most_flip_flops : ℕ
most_flip_flops = 128

abbrev pub most_pairs : ℕ
most_pairs = 2048

abbrev pub most_scan_step : ℕ
most_scan_step = 1000

abbrev pub most_preset : ℕ
most_preset = 86400000

-- the numbers of a row in each table
abbrev pub state_row : ℕ
state_row = 2

abbrev pub move_row : ℕ
move_row = 11

abbrev pub pair_row : ℕ
pair_row = 2

-- "eight literal places"
abbrev pub literal_places : ℕ
literal_places = 8

unfoldable pub state_count : Tables → ℕ
state_count c = length c.states / state_row

unfoldable pub move_count : Tables → ℕ
move_count c = length c.moves / move_row

unfoldable pub timer_count : Tables → ℕ
timer_count c = length c.presets

unfoldable pub pair_count : List ℕ → ℕ
pair_count ps = length ps / pair_row

-- "States: two 16-bit numbers each, super-state and initial sub-state"
unfoldable pub super_state : Tables → ℕ → ℕ
super_state c s = get_or c.states (state_row * s) 0

unfoldable pub initial : Tables → ℕ → ℕ
initial c s = get_or c.states (state_row * s + 1) 0

-- "Moves: eleven signed 16-bit numbers each: source, target, mark (0 plain, 1 history), eight literal places"
unfoldable pub cell : Tables → ℕ → ℕ → ℤ
cell c i j = get_or c.moves (move_row * i + j) (pos 0)

-- as sizes: -1 reads as 1 here, and MOVE, which asks the cells themselves, refuses it
unfoldable pub source : Tables → ℕ → ℕ
source c i = nat_abs (cell c i 0)

unfoldable pub target : Tables → ℕ → ℕ
target c i = nat_abs (cell c i 1)

unfoldable pub mark : Tables → ℕ → ℕ
mark c i = nat_abs (cell c i 2)

unfoldable pub literal : Tables → ℕ → ℕ → ℤ
literal c i j = cell c i (3 + j)

-- "Presets: one 32-bit number a timer. Timers count from 1.": timer 0 is never asked
unfoldable pub preset : Tables → ℕ → ℕ
preset c t = get_or c.presets (t - 1) 0

-- "Timer pairs (timer, state) and output pairs (output, state)": the timer or output of row i, and its state
unfoldable pub pair_number : List ℕ → ℕ → ℕ
pair_number ps i = get_or ps (pair_row * i) 0

unfoldable pub pair_state : List ℕ → ℕ → ℕ
pair_state ps i = get_or ps (pair_row * i + 1) 0

-- "N the preset divided by the scan step, rounded up"
unfoldable pub preset_steps : Tables → ℕ → ℕ
preset_steps c t = (preset c t + c.scan_step - 1) / c.scan_step
