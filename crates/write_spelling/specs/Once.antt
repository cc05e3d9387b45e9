-- No second answer of any function of this crate: the bytes at exit and the next place, where the line fits.
use Rattle.std.specs.Prelude.{List, ◌++◌, ℕ}
use Rattle.meaning.specs.Once.{Once}
use Rattle.meaning.specs.declared.Operand.{Operand}
use Rattle.meaning.specs.declared.Operator.{Operator}
use Rattle.format.specs.Text.{bytes, decimal, operand_text, operator_text, line, declarations}
use Rattle.write_lines.specs.Fit.{PutIfRoom}
use Rattle.write_lines.specs.Once.{RoomFor, one_fit}

pub put_mx_once : (l : List ℕ) (i n : ℕ) → RoomFor l i (line (operand_text (Operand.Mx n))) → Once {A = ℕ × List ℕ} (λ (r, m). PutIfRoom l i (line (operand_text (Operand.Mx n))) m r)
put_mx_once l i n = one_fit l i (line (operand_text (Operand.Mx n)))

pub put_ix_once : (l : List ℕ) (i n : ℕ) → RoomFor l i (line (operand_text (Operand.Ix n))) → Once {A = ℕ × List ℕ} (λ (r, m). PutIfRoom l i (line (operand_text (Operand.Ix n))) m r)
put_ix_once l i n = one_fit l i (line (operand_text (Operand.Ix n)))

pub put_qx_once : (l : List ℕ) (i n : ℕ) → RoomFor l i (line (operand_text (Operand.Qx n))) → Once {A = ℕ × List ℕ} (λ (r, m). PutIfRoom l i (line (operand_text (Operand.Qx n))) m r)
put_qx_once l i n = one_fit l i (line (operand_text (Operand.Qx n)))

pub put_named_once : (l : List ℕ) (i n : ℕ) (t : List ℕ) → RoomFor l i (bytes "T" ++ (decimal n ++ t)) → Once {A = ℕ × List ℕ} (λ (r, m). PutIfRoom l i (bytes "T" ++ (decimal n ++ t)) m r)
put_named_once l i n t = one_fit l i (bytes "T" ++ (decimal n ++ t))

pub put_on_block_once : (l : List ℕ) (i : ℕ) (w : List ℕ) (n : ℕ) (t : List ℕ) → RoomFor l i (w ++ (bytes "T" ++ (decimal n ++ t))) → Once {A = ℕ × List ℕ} (λ (r, m). PutIfRoom l i (w ++ (bytes "T" ++ (decimal n ++ t))) m r)
put_on_block_once l i w n t = one_fit l i (w ++ (bytes "T" ++ (decimal n ++ t)))

pub put_time_once : (l : List ℕ) (i n : ℕ) → RoomFor l i (line (operator_text (Operator.LdTime n))) → Once {A = ℕ × List ℕ} (λ (r, m). PutIfRoom l i (line (operator_text (Operator.LdTime n))) m r)
put_time_once l i n = one_fit l i (line (operator_text (Operator.LdTime n)))

pub put_head_once : (l : List ℕ) (i d : ℕ) → RoomFor l i (line (bytes "PROGRAM CHART") ++ declarations d)
    → Once {A = ℕ × List ℕ} (λ (r, m). PutIfRoom l i (line (bytes "PROGRAM CHART") ++ declarations d) m r)
put_head_once l i d = one_fit l i (line (bytes "PROGRAM CHART") ++ declarations d)

pub put_end_once : (l : List ℕ) (i : ℕ) → RoomFor l i (line (bytes "END_PROGRAM")) → Once {A = ℕ × List ℕ} (λ (r, m). PutIfRoom l i (line (bytes "END_PROGRAM")) m r)
put_end_once l i = one_fit l i (line (bytes "END_PROGRAM"))
