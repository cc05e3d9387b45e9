-- The body over the pairs of the output, and its line.
use mathlib.Core.Path.{◌≡◌}
use mathlib.Core.List.{[], ◌∷◌}
use Prim.Native.Nat.{◌%◌}
use native.Mathlib.Omega.{arith}
use Rattle.meaning.specs.Programs.{body_of}
use Rattle.meaning.specs.Written.{pairs_body}
use Rattle.meaning.specs.declared.Operand.TheVariants.{Qx}
use Rattle.meaning.specs.declared.Operator.TheVariants.{St}
use Rattle.write_bits.specs.SentLaws.{put_lines, put_line}
use Rattle.write_rungs.specs.SectionLaws.{output_pairs_lem, output_lines}
use Rattle.format.specs.Text.{line, operator_text}
use Rattle.write_lines.specs.Fit.{fit_fit}
use Rattle.write_rungs.proofs.put_output.Goals as goal

pub returns : goal.returns
unfolding line operator_text
returns c g q d e F h =
    let a = c.args in
    let ps = a.t.now.output_pairs.now in
    let x = c.put_pairs-body.ensures g q d g.outputs (output_pairs_lem g ps d.rules e) F in
    let m : a.o % 65536 ≡ a.o = omega arith in
    let y = fit_fit c.put_part-p.ensures (rw m at c.put_qx.ensures) in
    (x.0, rw (← output_lines g ps a.o e) (put_lines (body_of (pairs_body g ps a.o)) (St (Qx a.o) ∷ []) x.1 (put_line (St (Qx a.o)) y)))
