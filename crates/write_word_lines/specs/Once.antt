-- No second answer of any function of this crate: the bytes at exit and the next place, where the lines fit.
use mathlib.Core.List.{List, flat_map}
use Rattle.std.specs.Prelude.{ℕ}
use Rattle.meaning.specs.Once.{Once}
use Rattle.format.specs.Text.{operand_text, operator_text, line}
use Rattle.format.specs.Decode.{operand_of}
use Rattle.write_lines.specs.Fit.{PutIfRoom}
use Rattle.write_lines.specs.Once.{RoomFor, one_fit}
use Rattle.write_word_lines.specs.Stores.{store_of}
use Rattle.write_word_lines.specs.ByNumbers.{word_line}

pub put_operand_once : (l : List ℕ) (i n : ℕ) → RoomFor l i (line (operand_text (operand_of n))) → Once {A = ℕ × List ℕ} (λ (r, m). PutIfRoom l i (line (operand_text (operand_of n))) m r)
put_operand_once l i n = one_fit l i (line (operand_text (operand_of n)))

pub put_store_once : (l : List ℕ) (i k n : ℕ) → RoomFor l i (line (operator_text (store_of k n))) → Once {A = ℕ × List ℕ} (λ (r, m). PutIfRoom l i (line (operator_text (store_of k n))) m r)
put_store_once l i k n = one_fit l i (line (operator_text (store_of k n)))

pub put_words_once : (l : List ℕ) (i : ℕ) (ws : List ℕ) → RoomFor l i (flat_map word_line ws) → Once {A = ℕ × List ℕ} (λ (r, m). PutIfRoom l i (flat_map word_line ws) m r)
put_words_once l i ws = one_fit l i (flat_map word_line ws)
