-- No second answer of any function of this crate.
use Rattle.std.specs.Prelude.{◌≡◌, List, ℕ}
use Rattle.meaning.specs.Once.{Once}
use Rattle.meaning.proofs.Laws.Once.{is_once}
use Rattle.meaning.specs.Tables.{timer_count}
use Rattle.meaning.specs.Check.{preset_passes, pair_passes, move_passes}
use Rattle.tables.specs.declared.ChartTables.{ChartTables}
use Rattle.tables.specs.Given.{given}

pub preset_passes_once : (t : ChartTables) (i : ℕ) → Once (λ r. r ≡ preset_passes (given t) i)
preset_passes_once t i = is_once (preset_passes (given t) i)

pub pair_passes_once : (t : ChartTables) (many : ℕ) (ps : List ℕ) (i : ℕ) → Once (λ r. r ≡ pair_passes (given t) many ps i)
pair_passes_once t many ps i = is_once (pair_passes (given t) many ps i)

pub timer_pair_passes_once : (t : ChartTables) (i : ℕ) → Once (λ r. let c = given t in r ≡ pair_passes c (timer_count c) c.timer_pairs i)
timer_pair_passes_once t i = let c = given t in is_once (pair_passes c (timer_count c) c.timer_pairs i)

pub output_pair_passes_once : (t : ChartTables) (i : ℕ) → Once (λ r. let c = given t in r ≡ pair_passes c c.outputs c.output_pairs i)
output_pair_passes_once t i = let c = given t in is_once (pair_passes c c.outputs c.output_pairs i)

pub move_passes_once : (t : ChartTables) (i : ℕ) → Once (λ r. r ≡ move_passes (given t) i)
move_passes_once t i = is_once (move_passes (given t) i)
