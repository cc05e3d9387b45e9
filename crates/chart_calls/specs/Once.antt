-- No second answer of the run of a chart, or of one scan of it.
use Rattle.meaning.specs.Refusals.{Answer}
use Rattle.std.specs.Prelude.{List, ℕ}
use Rattle.meaning.specs.Once.{Once}
use Rattle.meaning.proofs.Laws.Once.{four, two}
use Rattle.tables.specs.declared.ChartTables.{ChartTables}
use Rattle.tables.specs.Given.{given}
use Rattle.chart_calls.specs.Runs.{ChartRan, one_run}
use Rattle.chart_calls.specs.Steps.{Stepped, ChartStepped, one_step}

pub run_chart_once : (t : ChartTables) (xs l leaves outputs : List ℕ)
    → Once {A = Answer × List ℕ × List ℕ × List ℕ} (λ (r, l', ls', os'). ChartRan (given t) xs l leaves outputs r l' ls' os')
run_chart_once t xs l leaves outputs x y p q = four (one_run (given t) xs l leaves outputs _ _ _ _ _ _ _ _ p q)

pub step_chart_once : (t : ChartTables) (w : ℕ) (l : List ℕ) → Once {A = Stepped × List ℕ} (λ (r, l'). ChartStepped (given t) w l r l')
step_chart_once t w l x y p q = two (one_step (given t) w l _ _ _ _ p q)
