-- No second answer of the function of this crate, on tables that keep the rules.
use Rattle.meaning.specs.Refusals.{Answer}
use Rattle.std.proofs.Common.{sym, ◌∙◌}
use Rattle.std.specs.Prelude.{List, ℕ}
use Rattle.meaning.specs.Once.{Once}
use Rattle.meaning.proofs.Laws.Once.{four}
use Rattle.meaning.specs.Tables.{Tables}
use Rattle.meaning.specs.Rules.{Rules}
use Rattle.tables.specs.declared.ChartTables.{ChartTables}
use Rattle.tables.specs.Given.{given}
use Rattle.chart_scan.specs.Held.{TablesGiven}
use Rattle.chart_lent.specs.Slice.{LentRun}

pub run_checked_once : (c : Tables) (t : ChartTables) (xs l leaves outputs : List ℕ) → TablesGiven c t.chart.step t.chart.outputs t.states.now t.moves.now t.presets.now t.timer_pairs.now t.output_pairs.now
    → Rules c → Once {A = Answer × List ℕ × List ℕ × List ℕ} (λ (r, l', ls', os'). (k : Tables)
    → TablesGiven k t.chart.step t.chart.outputs t.states.now t.moves.now t.presets.now t.timer_pairs.now t.output_pairs.now → Rules k → LentRun k xs l leaves outputs r l' ls' os')
run_checked_once c t xs l leaves outputs G R x y p q =
    let u = p c G R in let v = q c G R in four (u.answers ∙ sym v.answers, u.state ∙ sym v.state, u.leaves ∙ sym v.leaves, u.outputs ∙ sym v.outputs)

-- ---- the same of the lent tables: no second answer for these, whatever an answer is for others with their slices

pub run_checked_given_once : (t : ChartTables) (xs l leaves outputs : List ℕ) → Rules (given t)
    → Once {A = Answer × List ℕ × List ℕ × List ℕ} (λ (r, l', ls', os'). Rules (given t)
    → LentRun (given t) xs l leaves outputs r l' ls' os')
run_checked_given_once t xs l leaves outputs R x y p q =
    let u = p R in
    let v = q R in
    four (u.answers ∙ sym v.answers, u.state ∙ sym v.state, u.leaves ∙ sym v.leaves, u.outputs ∙ sym v.outputs)
