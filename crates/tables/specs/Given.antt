-- A chart's tables from the slices that are lent, and what is known of them.
use Rattle.std.specs.Prelude.{◌≡◌, List, ℕ, ◌/◌, length, ℤ}
use Rattle.std.proofs.Common.{ap}
use Rattle.meaning.specs.Tables.{Tables, move_row, state_count, move_count}
use Rattle.tables.specs.declared.Chart.{Chart}
use Rattle.tables.specs.declared.ChartTables.{ChartTables}

-- the tables of a chart, as they are lent
abbrev pub tables_of : Chart → List ℕ → List ℤ → List ℕ → List ℕ → List ℕ → Tables
tables_of chart states moves presets timer_pairs output_pairs = record {
  scan_step = chart.step;
  inputs = chart.inputs;
  outputs = chart.outputs;
  states = states;
  moves = moves;
  presets = presets;
  timer_pairs = timer_pairs;
  output_pairs = output_pairs;
}

-- the tables that are given
abbrev pub given : ChartTables → Tables
given t = tables_of t.chart t.states.now t.moves.now t.presets.now t.timer_pairs.now t.output_pairs.now

-- what the slices say of a chart's tables, whatever its frame
pub record Lent (c : Tables) (ss : List ℕ) (ms : List ℤ) (ps ts os : List ℕ) : Type 0 where
  pub states : c.states ≡ ss
  pub moves : c.moves ≡ ms
  pub presets : c.presets ≡ ps
  pub timer_pairs : c.timer_pairs ≡ ts
  pub output_pairs : c.output_pairs ≡ os

pub state_count_lem : (c : Tables) (l : List ℕ) → c.states ≡ l → state_count c ≡ length l / 2
unfolding state_count
state_count_lem c l e = ap (λ x. length x / 2) e

pub move_count_lem : (c : Tables) (l : List ℤ) → c.moves ≡ l → move_count c ≡ length l / move_row
unfolding move_count
move_count_lem c l e = ap (λ x. length x / move_row) e
