-- No second answer of any function of this crate. Words past the chart's states, and bits past its presets, are not seen.
use Rattle.std.specs.Prelude.{◌≡◌, List, ℕ, suc, ◌<◌, ◌≤◌}
use Rattle.std.proofs.Common.{sym, ◌∙◌}
use Rattle.meaning.specs.Once.{Once, OnceSeen}
use Rattle.meaning.proofs.Laws.Once.{is_once}
use Rattle.meaning.specs.Tables.{timer_count}
use Rattle.meaning.specs.Machine.{remembered}
use Rattle.meaning.specs.Literals.{input_on}
use Rattle.tables.specs.declared.ChartTables.{ChartTables}
use Rattle.tables.specs.Given.{given}
use Rattle.chart_paths.specs.Walk.{walk}
use Rattle.chart_paths.specs.Words.{expired_at}

pub remembered_once : (m : List ℕ) (a : ℕ) → Once (λ r. r ≡ remembered m a)
remembered_once m a = is_once (remembered m a)

pub active_leaf_once : (m : List ℕ) → Once (λ r. r ≡ walk (remembered m) 8 0)
active_leaf_once m = is_once (walk (remembered m) 8 0)

pub bit_at_once : (w i : ℕ) → Once (λ r. r ≡ input_on w (suc i))
bit_at_once w i = is_once (input_on w (suc i))

pub expired_of_once : (t : ChartTables) (w : ℕ) (ts : List ℕ) (k : ℕ) → timer_count (given t) ≤ 32 → k < timer_count (given t)
    → OnceSeen (λ r. input_on r (suc k)) (λ r. timer_count (given t) ≤ 32 → (i : ℕ) → i < timer_count (given t) → input_on r (suc i) ≡ expired_at (given t).presets w ts i)
expired_of_once t w ts k f h x y p q = p f k h ∙ sym (q f k h)
