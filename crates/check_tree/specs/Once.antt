-- No second answer of any function of this crate; of near sources where super-states have the smaller numbers.
use Rattle.std.specs.Prelude.{◌≡◌, ◌||◌, ℕ}
use Rattle.std.proofs.Common.{sym, ◌∙◌}
use Rattle.meaning.specs.Once.{Once}
use Rattle.meaning.proofs.Laws.Once.{is_once}
use Rattle.meaning.specs.Hierarchy.{at_or_above}
use Rattle.meaning.specs.Check.{hierarchy_passes, initial_passes}
use Rattle.tables.specs.declared.ChartTables.{ChartTables}
use Rattle.tables.specs.Given.{given}
use Rattle.check_tree.specs.Falling.{Falling}

pub hierarchy_passes_once : (t : ChartTables) (s : ℕ) → Once (λ r. r ≡ hierarchy_passes (given t) s)
hierarchy_passes_once t s = is_once (hierarchy_passes (given t) s)

pub initial_passes_once : (t : ChartTables) (s : ℕ) → Once (λ r. r ≡ initial_passes (given t) s)
initial_passes_once t s = is_once (initial_passes (given t) s)

pub near_once : (t : ChartTables) (a b : ℕ) → Falling (given t)
    → Once (λ r. Falling (given t) → r ≡ (at_or_above (given t) a b || at_or_above (given t) b a))
near_once t a b f x y p q = p f ∙ sym (q f)
