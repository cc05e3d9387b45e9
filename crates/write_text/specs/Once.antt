-- No second answer of the writer of a chart's text; of the writer after the check, on tables that keep the rules.
use Rattle.meaning.specs.Refusals.{Answer}
use Rattle.std.specs.Prelude.{List, ℕ}
use Rattle.meaning.specs.Once.{Once}
use Rattle.meaning.proofs.Laws.Once.{two}
use Rattle.meaning.specs.Tables.{Tables}
use Rattle.meaning.specs.Rules.{Rules}
use Rattle.format.specs.Printed.{chart_text}
use Rattle.format.specs.TextWritten.{TextWritten}
use Rattle.format.proofs.Laws.TextWritten.{text_written_same}
use Rattle.tables.specs.Given.{given}
use Rattle.tables.specs.declared.ChartTables.{ChartTables}
use Rattle.write_text.specs.Wrote.{RuledTables}
use Rattle.write_text.specs.Texts.{ChartWritten, one_text}

pub write_checked_once : (c : Tables) (t : ChartTables) (l : List ℕ) → RuledTables c t.chart.outputs t.states.now t.moves.now t.presets.now t.timer_pairs.now t.output_pairs.now
    → Once {A = Answer × List ℕ} (λ (r, m). (k : Tables) → RuledTables k t.chart.outputs t.states.now t.moves.now t.presets.now t.timer_pairs.now t.output_pairs.now → TextWritten (chart_text k) l r m)
write_checked_once c t l e x y p q = two (text_written_same (p c e) (q c e))

pub write_once : (t : ChartTables) (l : List ℕ) → Once {A = Answer × List ℕ} (λ (r, m). ChartWritten (given t) l r m)
write_once t l x y p q = two (one_text (given t) l _ _ _ _ p q)

-- ---- the same of the lent tables: no second answer for these, whatever an answer is for others with their slices

pub write_checked_given_once : (t : ChartTables) (l : List ℕ) → Rules (given t)
    → Once {A = Answer × List ℕ} (λ (r, m). Rules (given t) → TextWritten (chart_text (given t)) l r m)
write_checked_given_once t l R x y p q = two (text_written_same (p R) (q R))
