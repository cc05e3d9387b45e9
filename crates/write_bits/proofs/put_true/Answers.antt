-- A line where nothing asks yet, otherwise none.
use Rattle.std.proofs.Math.Logic.{inl, inr}
use native.Mathlib.Omega.{arith}
use Rattle.meaning.specs.declared.Operand.TheVariants.{True}
use Rattle.meaning.specs.declared.Operator.TheVariants.{Ld}
use Rattle.format.specs.Text.{line, operator_text, operand_text}
use Rattle.write_bits.specs.SentLaws.{put_line, put_nil}
use Rattle.write_bits.proofs.put_true.Goals as goal

pub returns-in-First : goal.returns-in-First
unfolding line operator_text operand_text
returns-in-First c = rw c.in-First.is (put_line (Ld True) c.put_part.ensures)

pub returns-in-More : goal.returns-in-More
returns-in-More c =
    elim c.in-More.is [ inl e ↦ rw e (put_nil _ _ (omega arith) (omega arith)) | inr e ↦ rw e (put_nil _ _ (omega arith) (omega arith)) ]
