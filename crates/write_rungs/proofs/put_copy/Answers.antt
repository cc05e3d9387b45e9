-- Its two lines; both numbers are below 65536, so that no bit of them is lost.
use mathlib.Core.Path.{◌≡◌}
use mathlib.Core.List.{[], ◌∷◌}
use Prim.Native.Nat.{◌+◌, ◌%◌}
use native.Mathlib.Omega.{arith}
use Rattle.meaning.specs.declared.Operand.TheVariants.{Mx}
use Rattle.meaning.specs.declared.Operator.TheVariants.{Ld, St}
use Rattle.write_bits.specs.SentLaws.{put_cons, put_line}
use Rattle.write_rungs.specs.RungLaws.{copy_lines}
use Rattle.format.specs.Text.{line, operator_text}
use Rattle.write_lines.specs.Fit.{fit_fit}
use Rattle.write_rungs.proofs.put_copy.Goals as goal

pub returns : goal.returns
unfolding line operator_text
returns c c' e h =
    let a = c.args in
    let m : (c.from.result + c.from-2.result) % 65536 ≡ a.total + a.b = omega (arith, c.from.ensures, c.from-2.ensures) in
    let k : a.b % 65536 ≡ a.b = omega arith in
    rw (copy_lines c' a.b, ← e)
    (put_cons (Ld (Mx (a.total + a.b))) (St (Mx a.b) ∷ []) (fit_fit c.put_part-p.ensures (rw m at c.put_mx-q.ensures))
    (put_line (St (Mx a.b)) (fit_fit c.put_part-next.ensures (rw k at c.put_mx.ensures))))
