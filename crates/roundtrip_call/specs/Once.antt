-- No second answer of the run of a written text.
use Rattle.std.specs.Prelude.{List, ℕ}
use Rattle.meaning.specs.Once.{Once}
use Rattle.meaning.proofs.Laws.Once.{five}
use Rattle.tables.specs.declared.ChartTables.{ChartTables}
use Rattle.tables.specs.Given.{given}
use Rattle.roundtrip_call.specs.WrittenRan.{WrittenAnswer, WrittenRan, one_written_run}

pub run_written_once : (t : ChartTables) (xs text words leaves outputs : List ℕ)
    → Once {A = WrittenAnswer × List ℕ × List ℕ × List ℕ × List ℕ} (λ (r, l, ws, ls, os). WrittenRan (given t) xs text words leaves outputs r l ws ls os)
run_written_once t xs text words leaves outputs x y p q =
    five (one_written_run (given t) xs text words leaves outputs _ _ _ _ _ _ _ _ _ _ p q)
