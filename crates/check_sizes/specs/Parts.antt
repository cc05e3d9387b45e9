-- Parts of the test of SIZE that have a function of their own.
use Rattle.std.specs.Prelude.{◌≡◌, Bool, ◌&&◌, ◌%◌, eqb, leb, length}
use Rattle.std.proofs.Math.Bool.{and_assoc}
use Rattle.meaning.specs.Tables.{Tables, state_row, move_row, pair_row, most_states, most_moves, most_timers, most_pairs, most_inputs, most_outputs, most_scan_step, state_count, move_count, timer_count, pair_count}
use Rattle.meaning.specs.Literals.{between}
use Rattle.meaning.specs.Check.{size_passes}

-- SIZE: "slice no whole number of rows"
abbrev pub rows_whole : Tables → Bool
rows_whole c =
    eqb (length c.states % state_row) 0 && eqb (length c.moves % move_row) 0
    && eqb (length c.timer_pairs % pair_row) 0 && eqb (length c.output_pairs % pair_row) 0

-- SIZE: "count .. beyond its limit, no state"
abbrev pub counts_fit : Tables → Bool
counts_fit c =
    between 1 most_states (state_count c) && leb (move_count c) most_moves && leb (timer_count c) most_timers
    && leb (pair_count c.timer_pairs) most_pairs && leb (pair_count c.output_pairs) most_pairs

-- SIZE: "count or scan step beyond its limit"
abbrev pub frame_fits : Tables → Bool
frame_fits c = leb c.inputs most_inputs && leb c.outputs most_outputs && between 1 most_scan_step c.scan_step

-- the three are all of SIZE
pub size_parts : (c : Tables) → size_passes c ≡ (rows_whole c && counts_fit c && frame_fits c)
unfolding size_passes
size_parts c = simp and_assoc
