use native.Mathlib.Omega.{arith}
use Rattle.format.proofs.Laws.Decimals.{decimal_small, decimal_last}
use Rattle.write_lines.specs.Put.{put_put}
use Rattle.write_lines.proofs.+put_decimal.Goals as goal

pub returns-then-n-lt10 : goal.returns-then-n-lt10
returns-then-n-lt10 t c = rw (decimal_small c.args.n (omega arith)) c.put.ensures

pub returns-else-n-lt10 : goal.returns-else-n-lt10
returns-else-n-lt10 t c = rw (decimal_last c.args.n (omega arith) (omega arith)) (put_put c.put_decimal-p.ensures c.put-else-n-lt10.ensures)
