-- To compute on written-out charts: whoever names `compute` on an `unfolding` line opens every definition here.
use Rattle.std.specs.Prelude.{ℕ}
use mathlib.Core.List.{flat_map, head_d}
use Rattle.meaning.specs.Rows.{least, some, count, table}
use Rattle.meaning.specs.Tables.{state_count, move_count, timer_count, pair_count, super_state, initial, cell, source}
use Rattle.meaning.specs.Tables.{target, mark, literal, preset, pair_number, pair_state, preset_steps}
use Rattle.meaning.specs.Hierarchy.{up, levels, depth, at_or_above, above, on_the_way, sub_state, sub_states, is_leaf}
use Rattle.meaning.specs.Hierarchy.{paired, timer_runs, output_on}
use Rattle.meaning.specs.Layout.{significant_in, significant, width, group_width, group_first, flip_flop_count}
use Rattle.meaning.specs.Layout.{other_sub_state, code}
use Rattle.meaning.specs.Literals.{kind_of, wanted, holds_as, holds, literals_hold, input_on}
use Rattle.meaning.specs.Check.{first_failing, verdict_of, size_passes, hierarchy_passes, initial_passes, preset_passes}
use Rattle.meaning.specs.Check.{pair_after, pair_passes, below, move_passes, within_counts, may_precede, place_passes}
use Rattle.meaning.specs.Check.{literal_passes, runs_below, idle_passes, overlaps, overlap_passes, earlier}
use Rattle.meaning.specs.Check.{flip_flop_passes, checks, verdict}
use Rattle.meaning.specs.Needs.{named, needed_by, meet, clash}
use Rattle.meaning.specs.Machine.{remembered, timer_value, descend, follow, active_leaf, enabled, chosen}
use Rattle.meaning.specs.Machine.{leads_below, reached, remembers_after, memory_after_move, timer_expired, timer_after}
use Rattle.meaning.specs.Machine.{start_state, setting, memory_after_step, state_after_step, word_of, seen_at_leaf, seen_in, trace}
use Rattle.meaning.specs.Machine.{state_after_scans}
use Rattle.meaning.specs.Lent.{super_states_below, lent_length, coded, lent_code, lent_memory, state_of, lent_codes}
use Rattle.meaning.specs.Lent.{lent_of, code_passes, timer_passes, state_passes}
use Rattle.meaning.specs.Calls.{state_check, scans_check, chart_run_checks, overlaid}
use Rattle.meaning.specs.History.{last_active, last_ran, expired_by, next_leaf, first_leaf, leaves_from, history_reading}
use Rattle.meaning.specs.Programs.{load_of, and_of, chain_of, part_of, body_of, rung_of, timer_rung_of, timer_rungs_from}
use Rattle.meaning.specs.Programs.{instructions, all, testable, flip_flop_fits, output_fits, constant, load_fits}
use Rattle.meaning.specs.Programs.{chain_fits, part_fits, body_fits, store_fits, rung_fits, timer_rung_fits, program_fits}
use Rattle.meaning.specs.Programs.{carried, bytes_for, flip_flop_bytes}
use Rattle.meaning.specs.Scan.{block_at, block_changed, elapsed, ton, with_in, with_pt, flip_flop_on, value_of}
use Rattle.meaning.specs.Scan.{with_flip_flops, with_block, with_outputs, stored_in, block_called, with_result, executed}
use Rattle.meaning.specs.Scan.{executed_all, scan_begun, scanned, output_word, output_trace, scanned_all, cleared}
use Rattle.meaning.specs.Written.{bits_from, group_bits, path_bits, bit_test, state_tests, kind_test, literal_tests}
use Rattle.meaning.specs.Written.{chain, or_body, and_body, pair_states, pairs_body, timer_rung, bit_store}
use Rattle.meaning.specs.Written.{initial_stores, stores_from, move_stores, rung_with, move_rungs, copy_rungs}
use Rattle.meaning.specs.Written.{output_rungs, program}
use Rattle.meaning.specs.Stands.{code_at, next_call, coded_sub_state, coded_leaf}

unfoldable pub compute : ℕ
unfolding flat_map head_d least some count table state_count move_count timer_count pair_count super_state initial cell
    source target mark literal preset pair_number pair_state preset_steps up levels depth at_or_above above on_the_way
    sub_state sub_states is_leaf paired timer_runs output_on significant_in significant width group_width group_first
    flip_flop_count other_sub_state code kind_of wanted holds_as holds literals_hold input_on first_failing verdict_of size_passes
    hierarchy_passes initial_passes preset_passes pair_after pair_passes below move_passes within_counts may_precede
    place_passes literal_passes runs_below idle_passes named needed_by meet clash overlaps overlap_passes earlier flip_flop_passes
    checks verdict remembered timer_value descend follow active_leaf enabled chosen leads_below reached remembers_after
    memory_after_move timer_expired timer_after start_state setting memory_after_step state_after_step word_of seen_at_leaf seen_in trace
    state_after_scans super_states_below lent_length coded lent_code lent_memory state_of lent_codes lent_of code_passes timer_passes
    state_passes state_check scans_check chart_run_checks overlaid last_active last_ran expired_by next_leaf first_leaf
    leaves_from history_reading load_of and_of chain_of part_of body_of rung_of timer_rung_of timer_rungs_from instructions all
    testable flip_flop_fits output_fits constant load_fits chain_fits part_fits body_fits store_fits rung_fits timer_rung_fits
    program_fits carried bytes_for flip_flop_bytes block_at block_changed elapsed ton with_in with_pt flip_flop_on value_of
    with_flip_flops with_block with_outputs stored_in block_called with_result executed executed_all scan_begun scanned
    output_word output_trace scanned_all cleared bits_from group_bits path_bits bit_test state_tests kind_test literal_tests
    chain or_body and_body pair_states pairs_body timer_rung bit_store initial_stores stores_from move_stores rung_with
    move_rungs copy_rungs output_rungs program code_at next_call coded_sub_state coded_leaf
compute = 0
