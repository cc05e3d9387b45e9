-- What the answers of the seven readers tell: FIELD, and how many numbers stand in the arrays that they were stored in.
use Rattle.meaning.specs.Refusals.{Answer}
use Rattle.meaning.specs.Refusals.{Verdict}
use Rattle.std.specs.Prelude.{◌≡◌, ℕ, ◌*◌, min, List, get_or, Ok, Err}
use Rattle.std.proofs.Common.{sym, ◌∙◌}
use Rattle.meaning.specs.Tables.{move_row}
use Rattle.csv_columns.specs.Low.{low32}
use Rattle.tables.specs.declared.Chart.{Chart}
use Rattle.csv_tables.specs.declared.Answers.{Answers}
use Rattle.csv_tables.specs.declared.Counts.{Counts}

abbrev pub rows_of : Answer → ℕ
rows_of (Ok n) = n
rows_of (Err r) = 0

-- the refusal of a file, or what comes after it
abbrev pub later : Answer → Verdict → Verdict
later (Ok n) v = v
later (Err r) v = Err r

abbrev pub field_verdict : Answers → Verdict
field_verdict a = later a.frame (later a.states (later a.moves (later a.presets (later a.timer_pairs (later a.output_pairs (later a.scans (Ok tt)))))))

-- the frame of the chart
abbrev pub chart_from : List ℕ → Chart
chart_from frame = record { step = low32 (get_or frame 0 0); inputs = low32 (get_or frame 1 0); outputs = low32 (get_or frame 2 0) }

-- how many numbers stand in the arrays
pub record Counted (a : Answers) (n : Counts) : Type 0 where
  pub states : n.states ≡ min (2 * rows_of a.states) 514
  pub moves : n.moves ≡ min (move_row * rows_of a.moves) 5643
  pub presets : n.presets ≡ min (rows_of a.presets) 33
  pub timer_pairs : n.timer_pairs ≡ min (2 * rows_of a.timer_pairs) 4098
  pub output_pairs : n.output_pairs ≡ min (2 * rows_of a.output_pairs) 4098
  pub scans : n.scans ≡ min (rows_of a.scans) 4096

-- no second answer
pub one_count : (a : Answers) (m n : Counts) → Counted a m → Counted a n → m ≡ n
one_count a m n p q = λ i. record {
  states = (p.states ∙ sym q.states) i;
  moves = (p.moves ∙ sym q.moves) i;
  presets = (p.presets ∙ sym q.presets) i;
  timer_pairs = (p.timer_pairs ∙ sym q.timer_pairs) i;
  output_pairs = (p.output_pairs ∙ sym q.output_pairs) i;
  scans = (p.scans ∙ sym q.scans) i;
}
