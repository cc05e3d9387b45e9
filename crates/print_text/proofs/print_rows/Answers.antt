-- The tables that are lent are those that the stored numbers make, table by table, and so are the input words.
use mathlib.Core.Path.{ap, ◌∙◌}
use Prim.Native.Nat.{ℕ, ◌*◌}
use lib.ListN.{take}
use lib.IntN.{pos}
use Rattle.meaning.specs.Tables.{move_row}
use Rattle.csv_value.specs.Decimals.{signed_of}
use Rattle.csv_columns.specs.Low.{low16, low32}
use Rattle.csv_tables.specs.Told.{rows_of}
use Rattle.print_text.specs.Print.{narrowed_is, scans_part, same_printed}
use Rattle.print_text.proofs.print_rows.Goals as goal

pub returns : goal.returns
returns c =
    let a = c.args.answers in
    let s = c.args.stored.now in
    let n = c.count_rows-n.ensures in
    let xs = ap (λ (k : ℕ). take k s.scans.now) c.min-kept.ensures ∙ scans_part (rows_of a.scans) c.count_rows-n.result.scans 4096 s.scans.now n.scans in
    same_printed _ _ _ _ _ _ _ _
    (λ i. record {
      scan_step = (c.chart_of.ensures i).step;
      inputs = (c.chart_of.ensures i).inputs;
      outputs = (c.chart_of.ensures i).outputs;
      states = narrowed_is 0 514 low16 (2 * rows_of a.states) s.states.now _ _ c.narrow.ensures n.states i;
      moves = narrowed_is (pos 0) 5643 signed_of (move_row * rows_of a.moves) s.moves.now _ _ c.narrow-2.ensures n.moves i;
      presets = narrowed_is 0 33 low32 (rows_of a.presets) s.presets.now _ _ c.narrow-3.ensures n.presets i;
      timer_pairs = narrowed_is 0 4098 low16 (2 * rows_of a.timer_pairs) s.timer_pairs.now _ _ c.narrow-4.ensures n.timer_pairs i;
      output_pairs = narrowed_is 0 4098 low16 (2 * rows_of a.output_pairs) s.output_pairs.now _ _ c.narrow-5.ensures n.output_pairs i;
    }) xs c.print_tables.ensures
