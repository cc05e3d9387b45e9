-- No second answer of the functions of this crate: of FLIP-FLOPS where there are no more than 256 states.
use Rattle.std.specs.Prelude.{◌≡◌, ◌≤◌}
use Rattle.std.proofs.Common.{sym, ◌∙◌}
use Rattle.meaning.specs.Once.{Once}
use Rattle.meaning.proofs.Laws.Once.{is_once}
use Rattle.meaning.specs.Check.{size_passes, flip_flop_passes}
use Rattle.meaning.specs.Tables.{state_count}
use Rattle.tables.specs.declared.ChartTables.{ChartTables}
use Rattle.tables.specs.Given.{given}

pub size_passes_once : (t : ChartTables) → Once (λ r. r ≡ size_passes (given t))
size_passes_once t = is_once (size_passes (given t))

pub flip_flops_pass_once : (t : ChartTables) → state_count (given t) ≤ 256
    → Once (λ r. state_count (given t) ≤ 256 → r ≡ flip_flop_passes (given t))
flip_flops_pass_once t f x y p q = p f ∙ sym (q f)
