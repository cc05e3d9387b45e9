-- No second answer of any function of this crate; of many timers the values of those that there are.
use Rattle.std.specs.Prelude.{◌≡◌, List, ℕ, suc, ◌≤◌, ◌<◌, length, get_or}
use Rattle.std.proofs.Common.{sym, ◌∙◌}
use Rattle.meaning.specs.Once.{Once, OnceSeen}
use Rattle.meaning.proofs.Laws.Once.{is_once}
use Rattle.meaning.specs.Tables.{timer_count}
use Rattle.meaning.specs.Literals.{input_on}
use Rattle.tables.specs.declared.ChartTables.{ChartTables}
use Rattle.tables.specs.Given.{given}
use Rattle.chart_timers.specs.Times.{longest, value_grown}

pub longest_once : (d p : ℕ) → Once (λ r. r ≡ longest d p)
longest_once d p = is_once (longest d p)

pub longest_of_once : (t : ChartTables) (k : ℕ) → timer_count (given t) ≤ 32 → 1 ≤ (given t).scan_step → k < timer_count (given t)
    → longest (given t).scan_step (get_or (given t).presets k 0) < 4294967296
    → OnceSeen (λ r. get_or r k 0) (λ r. timer_count (given t) ≤ 32 → 1 ≤ (given t).scan_step → (i : ℕ) → i < timer_count (given t)
    → longest (given t).scan_step (get_or (given t).presets i 0) < 4294967296 → get_or r i 0 ≡ longest (given t).scan_step (get_or (given t).presets i 0))
longest_of_once t k e f g h x y p q = p e f k g h ∙ sym (q e f k g h)

pub time_once : (t : ChartTables) (most : List ℕ) (w : ℕ) (ts : List ℕ) (k : ℕ) → timer_count (given t) ≤ 32 → timer_count (given t) ≤ length ts → k < timer_count (given t)
    → OnceSeen (λ r. get_or r k 0) (λ r. timer_count (given t) ≤ 32 → timer_count (given t) ≤ length ts → (i : ℕ) → i < timer_count (given t)
    → get_or r i 0 ≡ value_grown (given t).scan_step (get_or most i 0) (input_on w (suc i)) (get_or ts i 0))
time_once t most w ts k e f g x y p q = p e f k g ∙ sym (q e f k g)
