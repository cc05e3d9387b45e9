-- No declarations where there is no block, else the four parts in a row.
use mathlib.Core.Path.{◌≡◌}
use mathlib.Core.Logic.{◌≢◌}
use native.Mathlib.Omega.{arith}
use Rattle.format.specs.Text.{line, declarations}
use Rattle.write_lines.specs.Fit.{fit_fit}
use Rattle.write_spelling.specs.Declared.{some_declared}
use Rattle.write_spelling.proofs.put_head.Goals as goal

pub returns-then-d-eq0 : goal.returns-then-d-eq0
unfolding line declarations
returns-then-d-eq0 c =
    let e : c.args.d ≡ 0 = omega arith in
    rw e c.put_part-p.ensures

pub returns : goal.returns
unfolding line
returns c =
    let n : c.args.d ≢ 0 = omega arith in
    rw (some_declared c.args.d n)
    (fit_fit c.put_part-p.ensures (fit_fit c.put_part-q.ensures (fit_fit c.put_blocks-r.ensures c.put_part.ensures)))
