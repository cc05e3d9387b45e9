-- No second answer of the run of a chart's words, on tables that keep the rules.
use Rattle.std.specs.Prelude.{◌≡◌, List, ℕ, length}
use Rattle.std.proofs.Common.{sym, ◌∙◌}
use Rattle.meaning.specs.Once.{Once}
use Rattle.meaning.proofs.Laws.Once.{two}
use Rattle.meaning.specs.Tables.{Tables}
use Rattle.meaning.specs.Rules.{Rules}
use Rattle.tables.specs.declared.ChartTables.{ChartTables}
use Rattle.tables.specs.Given.{given}
use Rattle.roundtrip_run.specs.AsRead.{chart_words, AsRead}

pub run_words_once : (t : ChartTables) (c : Tables) (ws xs ls os : List ℕ) → c.scan_step ≡ t.chart.step
    → c.states ≡ t.states.now → Rules c → chart_words c ≡ ws → length ls ≡ length xs → length os ≡ length xs
    → Once {A = List ℕ × List ℕ} (λ (l, o). (k : Tables) → k.scan_step ≡ t.chart.step → k.states ≡ t.states.now
    → Rules k → chart_words k ≡ ws → length ls ≡ length xs → length os ≡ length xs → AsRead k xs l o)
run_words_once t c ws xs ls os d e R f g h x y p q =
    let u = p c d e R f g h in
    let v = q c d e R f g h in
    two (u.leaves ∙ sym v.leaves, u.outputs ∙ sym v.outputs)

-- ---- the same of the lent tables: no second answer for these, whatever an answer is for others with their slices

pub run_words_given_once : (t : ChartTables) (ws xs ls os : List ℕ) → Rules (given t) → chart_words (given t) ≡ ws
    → length ls ≡ length xs → length os ≡ length xs
    → Once {A = List ℕ × List ℕ} (λ (l, o). Rules (given t) → chart_words (given t) ≡ ws → length ls ≡ length xs
    → length os ≡ length xs → AsRead (given t) xs l o)
run_words_given_once t ws xs ls os R e f g x y p q =
    let u = p R e f g in
    let v = q R e f g in
    two (u.leaves ∙ sym v.leaves, u.outputs ∙ sym v.outputs)
