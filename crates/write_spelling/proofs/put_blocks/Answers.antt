-- One line more.
use Prim.Native.Nat.{ℕ, ◌+◌}
use mathlib.Core.Path.{◌≡◌}
use mathlib.Core.List.{flat_map}
use native.Mathlib.Numerals.{add-one}
use native.Mathlib.Omega.{arith}
use Rattle.meaning.specs.Rows.{table}
use Rattle.meaning.proofs.Laws.Rows.{rows_snoc}
use Rattle.format.specs.Text.{block_line}
use Rattle.write_lines.specs.Fit.{fit_fit, fit_none}
use Rattle.write_spelling.proofs.put_blocks.Goals as goal

pub loop-n-init : goal.loop-n-init
unfolding flat_map table
loop-n-init c = fit_none _ _ (omega arith) (omega arith)

pub loop-n-preserved : goal.loop-n-preserved
loop-n-preserved c =
    let n : ℕ = c.loop-n.n in
    let e : 1 + n ≡ n + 1 = omega arith in
    rw (add-one, rows_snoc block_line 1 n, e) (fit_fit c.loop-n.invariant c.put_block-p.ensures)
