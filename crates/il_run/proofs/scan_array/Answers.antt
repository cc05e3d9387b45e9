-- A scan over the row is the scan of the controller that holds it.
use Rattle.std.proofs.Common.{arith}
use Rattle.il_run.specs.RowLaws.{row_one_scan}
use Rattle.il_run.proofs.scan_array.Goals as goal

pub returns : goal.returns
returns c = row_one_scan (omega arith) c.scan-outputs.ensures
