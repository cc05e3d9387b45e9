-- No second answer of any function of this crate; of the timers' values where there is a scan step and there are no more than 32 of them.
use Rattle.std.specs.Prelude.{◌≡◌, ◌&&◌, List, ℕ, ◌≤◌, eqb, ltb}
use Rattle.std.proofs.Common.{sym, ◌∙◌}
use Rattle.meaning.specs.Once.{Once}
use Rattle.meaning.proofs.Laws.Once.{is_once}
use Rattle.meaning.specs.Rows.{every}
use Rattle.meaning.specs.Tables.{timer_count}
use Rattle.meaning.specs.Machine.{remembered}
use Rattle.tables.specs.declared.ChartTables.{ChartTables}
use Rattle.tables.specs.Given.{given}
use Rattle.chart_state_rules.specs.Values.{row_passes}

pub codes_pass_once : (m : List ℕ) (n : ℕ) → Once (λ r. r ≡ every (λ a. ltb (remembered m a) n) 0 n)
codes_pass_once m n = is_once (every (λ a. ltb (remembered m a) n) 0 n)

pub values_pass_once : (t : ChartTables) (w : ℕ) (ts : List ℕ) → 1 ≤ (given t).scan_step → timer_count (given t) ≤ 32
    → Once (λ r. 1 ≤ (given t).scan_step → timer_count (given t) ≤ 32
    → r ≡ every (row_passes (given t).scan_step (given t).presets w ts) 0 (timer_count (given t)))
values_pass_once t w ts e f x y p q = p e f ∙ sym (q e f)

pub scans_pass_once : (l o x : ℕ) → Once (λ r. r ≡ (eqb l x && eqb o x))
scans_pass_once l o x = is_once (eqb l x && eqb o x)
