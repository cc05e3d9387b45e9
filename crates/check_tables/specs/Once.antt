-- No second answer of the check of the tables.
use Rattle.meaning.specs.Once.{Once}
use Rattle.meaning.proofs.Laws.Once.{is_once}
use Rattle.meaning.specs.Check.{verdict}
use Rattle.tables.specs.declared.ChartTables.{ChartTables}
use Rattle.tables.specs.Given.{given}
use Rattle.check_tables.specs.Verdicts.{Checked}

pub check_once : (t : ChartTables) → Once (Checked (given t))
check_once t = is_once (verdict (given t))
