-- No second answer of any function of this crate.
use Rattle.std.specs.Prelude.{◌≡◌, ℕ}
use Rattle.meaning.specs.Once.{Once}
use Rattle.meaning.proofs.Laws.Once.{is_once}
use Rattle.meaning.specs.Rows.{least}
use Rattle.meaning.specs.Tables.{state_count}
use Rattle.meaning.specs.Layout.{group_first}
use Rattle.meaning.specs.Lent.{coded}
use Rattle.tables.specs.declared.ChartTables.{ChartTables}
use Rattle.tables.specs.Given.{given}
use Rattle.layout.specs.Laid.{laid_states, given_code, row, LaidOut}
use Rattle.layout.specs.LaidLaws.{one_layout}

pub lay_out_once : (t : ChartTables) → Once (λ r. LaidOut (given t) r)
lay_out_once t = one_layout (given t)

pub sub_with_code_once : (t : ChartTables) (a k : ℕ) → Once (λ r. r ≡ least (coded (given t) a k) 0 (state_count (given t)))
sub_with_code_once t a k = is_once (least (coded (given t) a k) 0 (state_count (given t)))

pub flip_flops_once : (t : ChartTables) → Once (λ r. r ≡ group_first (given t) (laid_states (given t)))
flip_flops_once t = is_once (group_first (given t) (laid_states (given t)))

pub codes_of_once : (t : ChartTables) → Once (λ r. r ≡ row (given_code (given t)) (laid_states (given t)))
codes_of_once t = is_once (row (given_code (given t)) (laid_states (given t)))
