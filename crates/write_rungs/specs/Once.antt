-- No second answer of any function of this crate, where the lines fit; of what is written from tables, on tables that
-- keep the rules.
use Rattle.std.specs.Prelude.{◌≡◌, ℕ, ◌+◌, ◌<◌}
use mathlib.Core.List.{List, flat_map}
use Rattle.meaning.specs.Once.{Once}
use Rattle.meaning.specs.Tables.{Tables, move_count, timer_count}
use Rattle.meaning.specs.Layout.{flip_flop_count}
use Rattle.meaning.specs.Programs.{rung_of}
use Rattle.meaning.specs.Written.{move_rungs, copy_rungs}
use Rattle.tables.specs.declared.ChartTables.{ChartTables}
use Rattle.tables.specs.Given.{given}
use Rattle.layout.specs.declared.Layout.{Layout}
use Rattle.write_lines.specs.Fit.{PutIfRoom}
use Rattle.write_lines.specs.Once.{RoomFor, one_fit}
use Rattle.write_bits.specs.Sent.{lines, LaidTables}
use Rattle.write_rungs.specs.Rungs.{call_of}
use Rattle.meaning.specs.Rules.{Rules}
use Rattle.write_rungs.specs.Sections.{timers_to, moves_to, copies_to, outputs_to}

pub put_move_once : (c : Tables) (l : List ℕ) (at : ℕ) (t : ChartTables) (y : Layout) (i : ℕ) → c.states ≡ t.states.now → LaidTables c y → c.moves ≡ t.moves.now → i < move_count c
    → RoomFor l at (lines (flat_map rung_of (move_rungs c i)))
    → Once {A = ℕ × List ℕ} (λ (r, m). (k : Tables) → k.states ≡ t.states.now → LaidTables k y → k.moves ≡ t.moves.now → i < move_count k → PutIfRoom l at (lines (flat_map rung_of (move_rungs k i))) m r)
put_move_once c l at t y i g d e f h x z p q = one_fit l at _ h x z (p c g d e f) (q c g d e f)

pub put_copy_once : (c : Tables) (l : List ℕ) (at total b : ℕ) → total ≡ flip_flop_count c → total + b < 65536 → RoomFor l at (lines (flat_map rung_of (copy_rungs c b)))
    → Once {A = ℕ × List ℕ} (λ (r, m). (k : Tables) → total ≡ flip_flop_count k → total + b < 65536 → PutIfRoom l at (lines (flat_map rung_of (copy_rungs k b))) m r)
put_copy_once c l at total b e f h x y p q = one_fit l at _ h x y (p c e f) (q c e f)

pub put_call_once : (l : List ℕ) (at n time : ℕ) → RoomFor l at (lines (call_of n time)) → Once {A = ℕ × List ℕ} (λ (r, m). PutIfRoom l at (lines (call_of n time)) m r)
put_call_once l at n time = one_fit l at (lines (call_of n time))

pub put_timers_once : (c : Tables) (l : List ℕ) (at : ℕ) (t : ChartTables) (y : Layout) → c.states ≡ t.states.now → LaidTables c y → c.presets ≡ t.presets.now → c.timer_pairs ≡ t.timer_pairs.now
    → RoomFor l at (lines (timers_to c (timer_count c)))
    → Once {A = ℕ × List ℕ} (λ (r, m). (k : Tables) → k.states ≡ t.states.now → LaidTables k y → k.presets ≡ t.presets.now → k.timer_pairs ≡ t.timer_pairs.now → PutIfRoom l at (lines (timers_to k (timer_count k))) m r)
put_timers_once c l at t y g d e f h x z p q = one_fit l at _ h x z (p c g d e f) (q c g d e f)

pub put_moves_once : (c : Tables) (l : List ℕ) (at : ℕ) (t : ChartTables) (y : Layout) → c.states ≡ t.states.now → LaidTables c y → c.moves ≡ t.moves.now → RoomFor l at (lines (moves_to c (move_count c)))
    → Once {A = ℕ × List ℕ} (λ (r, m). (k : Tables) → k.states ≡ t.states.now → LaidTables k y → k.moves ≡ t.moves.now → PutIfRoom l at (lines (moves_to k (move_count k))) m r)
put_moves_once c l at t y g d e h x z p q = one_fit l at _ h x z (p c g d e) (q c g d e)

pub put_copies_once : (c : Tables) (l : List ℕ) (at total : ℕ) → Rules c → total ≡ flip_flop_count c → RoomFor l at (lines (copies_to c (flip_flop_count c)))
    → Once {A = ℕ × List ℕ} (λ (r, m). (k : Tables) → Rules k → total ≡ flip_flop_count k → PutIfRoom l at (lines (copies_to k (flip_flop_count k))) m r)
put_copies_once c l at total d e h x y p q = one_fit l at _ h x y (p c d e) (q c d e)

pub put_outputs_once : (c : Tables) (l : List ℕ) (at : ℕ) (t : ChartTables) (y : Layout) → c.states ≡ t.states.now → LaidTables c y → c.output_pairs ≡ t.output_pairs.now → c.outputs ≡ t.chart.outputs
    → RoomFor l at (lines (outputs_to c t.chart.outputs))
    → Once {A = ℕ × List ℕ} (λ (r, m). (k : Tables) → k.states ≡ t.states.now → LaidTables k y → k.output_pairs ≡ t.output_pairs.now → k.outputs ≡ t.chart.outputs → PutIfRoom l at (lines (outputs_to k t.chart.outputs)) m r)
put_outputs_once c l at t y g d e f h x z p q = one_fit l at _ h x z (p c g d e f) (q c g d e f)

-- ---- the same of the lent tables: no second answer for these, whatever an answer is for others with their slices

pub put_move_given_once : (t : ChartTables) (l : List ℕ) (at : ℕ) (y : Layout) (i : ℕ) → LaidTables (given t) y
    → i < move_count (given t)
    → RoomFor l at (lines (flat_map rung_of (move_rungs (given t) i)))
    → Once {A = ℕ × List ℕ} (λ (r, m). LaidTables (given t) y → i < move_count (given t)
    → PutIfRoom l at (lines (flat_map rung_of (move_rungs (given t) i))) m r)
put_move_given_once t l at y i d f h x z p q = one_fit l at _ h x z (p d f) (q d f)

pub put_timers_given_once : (t : ChartTables) (l : List ℕ) (at : ℕ) (y : Layout) → LaidTables (given t) y
    → RoomFor l at (lines (timers_to (given t) (timer_count (given t))))
    → Once {A = ℕ × List ℕ} (λ (r, m). LaidTables (given t) y
    → PutIfRoom l at (lines (timers_to (given t) (timer_count (given t)))) m r)
put_timers_given_once t l at y d h x z p q = one_fit l at _ h x z (p d) (q d)

pub put_moves_given_once : (t : ChartTables) (l : List ℕ) (at : ℕ) (y : Layout) → LaidTables (given t) y
    → RoomFor l at (lines (moves_to (given t) (move_count (given t))))
    → Once {A = ℕ × List ℕ} (λ (r, m). LaidTables (given t) y
    → PutIfRoom l at (lines (moves_to (given t) (move_count (given t)))) m r)
put_moves_given_once t l at y d h x z p q = one_fit l at _ h x z (p d) (q d)

pub put_outputs_given_once : (t : ChartTables) (l : List ℕ) (at : ℕ) (y : Layout) → LaidTables (given t) y
    → RoomFor l at (lines (outputs_to (given t) t.chart.outputs))
    → Once {A = ℕ × List ℕ} (λ (r, m). LaidTables (given t) y
    → PutIfRoom l at (lines (outputs_to (given t) t.chart.outputs)) m r)
put_outputs_given_once t l at y d h x z p q = one_fit l at _ h x z (p d) (q d)
