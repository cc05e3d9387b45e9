-- No second answer of which operand bytes name.
use Rattle.std.specs.Prelude.{◌≡◌, refl, ℕ, true, List, ◌++◌, length, drop, Some, None}
use Rattle.std.proofs.Common.{sym, ap, ◌∙◌}
use Rattle.std.proofs.Math.Seq.{drop-append_seam}
use Rattle.meaning.specs.Once.{Once}
use Rattle.meaning.specs.Programs.{testable, carried}
use Rattle.meaning.specs.declared.Operand.{Operand}
use Rattle.meaning.specs.declared.Operand.TheVariants.{False}
use Rattle.meaning.specs.declared.Operator.TheVariants.{And}
use Rattle.format.specs.declared.Line.{Line}
use Rattle.format.specs.declared.Line.TheVariants.{Header, Var, Block, EndVar, Says, EndProgram, Unknown}
use Rattle.format.specs.Text.{bytes, operand_text, operator_text}
use Rattle.format.specs.Decode.{operator_fits}
use Rattle.format.specs.Automata.Lines.{line_text, line_fits, said}
use Rattle.format.proofs.Laws.Lines.{said_is}
use Rattle.read_operands.specs.Names.{Names}

-- what the instruction of a line carries
unfoldable carried_in : Line → Operand
carried_in Header = False
carried_in Var = False
carried_in (Block n) = False
carried_in EndVar = False
carried_in (Says i) = carried i
carried_in EndProgram = False
carried_in Unknown = False

-- two operands with one text would be two lines with one text
one_operand : (o p : Operand) → testable 32 o ≡ true → testable 32 p ≡ true → operand_text o ≡ operand_text p → o ≡ p
unfolding carried_in carried line_fits line_text operator_fits operator_text
one_operand o p f g e =
    let l : List ℕ = bytes "AND " ++ operand_text o in
    let a : said l ≡ Says (And o) = said_is l (Says (And o)) f refl in
    let b : said l ≡ Says (And p) = said_is l (Says (And p)) g (ap (λ x. bytes "AND " ++ x) (sym e)) in
    ap carried_in (sym a ∙ b)

one_behind : (head l x y : List ℕ) → head ++ x ≡ l → head ++ y ≡ l → x ≡ y
one_behind head l x y e f = sym (drop-append_seam head x) ∙ ap (drop (length head)) (e ∙ sym f) ∙ drop-append_seam head y

pub test_after_once : (s head : List ℕ) → Once (λ r. Names head (testable 32) s r)
test_after_once s head (Some o) (Some q) x y = ap Some (one_operand o q x.0 y.0 (one_behind head s (operand_text o) (operand_text q) x.1 y.1))
test_after_once s head (Some o) None x y = absurd (y o x.0 x.1)
test_after_once s head None (Some q) x y = absurd (x q y.0 y.1)
test_after_once s head None None x y = refl
