-- The flip-flop bytes that a list of words asks for, word by word.
use Rattle.format.specs.Decode.{Decoded}
use Rattle.std.specs.Prelude.{◌≡◌, refl, ℕ, zero, suc, ◌+◌, ◌≤◌, ◌<◌, max, true, List, [], ◌∷◌, map, length, get_or, drop, leb, Some, None}
use Rattle.std.proofs.Common.{arith, add-one, drop_of_length-le, drop-cons, le-leb}
use Rattle.std.proofs.Math.Decide.{dec_le}
use Rattle.meaning.proofs.Laws.Rows.{and_l, and_r}
use Rattle.meaning.specs.Programs.{all, testable, flip_flop_fits, carried, bytes_for, flip_flop_bytes}
use Rattle.meaning.specs.declared.Operand.TheVariants.{Mx}
use Rattle.meaning.specs.declared.Operator.{Operator}
use Rattle.format.specs.Words.{word}
use Rattle.format.specs.Decode.{operator_fits, operand_of, kept, unpacked, decoded}
use Rattle.format.proofs.Laws.Decode.{decode_word}
use Rattle.format.proofs.Laws.Operands.{operand_mx}

unfoldable pub bytes_in : Decoded → ℕ
bytes_in (Some i) = bytes_for (carried i)
bytes_in None = 0

-- the flip-flop bytes that the words name
unfoldable pub bytes_named : List ℕ → ℕ
bytes_named [] = 0
bytes_named (w ∷ ws) = max (bytes_in (decoded w)) (bytes_named ws)

-- ---- by the instructions of a program that fits

pub bytes_words : (is : List Operator) → all operator_fits is ≡ true → bytes_named (map word is) ≡ flip_flop_bytes is
unfolding all bytes_named bytes_in flip_flop_bytes
bytes_words [] e = refl
bytes_words (i ∷ is) e = rw (bytes_named, decode_word i (and_l (operator_fits i) (all operator_fits is) e), bytes_words is (and_r (operator_fits i) (all operator_fits is) e))

-- ---- one word after the other

pub bytes_on : (ws : List ℕ) (i : ℕ) → i < length ws → bytes_named (drop i ws) ≡ max (bytes_in (decoded (get_or ws i 0))) (bytes_named (drop (i + 1) ws))
unfolding bytes_named
bytes_on ws i h = rw (drop-cons ws i 0 h, add-one)

pub bytes_end : (ws : List ℕ) (i : ℕ) → length ws ≤ i → bytes_named (drop i ws) ≡ 0
unfolding bytes_named
bytes_end ws i h = rw (drop_of_length-le ws {i = i} h)

-- ---- by the two numbers of a word, operator k and operand m

-- LD, LDN, AND and ANDN of a flip-flop
pub bytes_tested : (k m : ℕ) → 0 < k → k < 5 → m < 256 → suc m ≡ bytes_in (unpacked k m)
unfolding unpacked kept operator_fits testable bytes_in bytes_for carried
bytes_tested zero m g h l = absurd (omega arith)
bytes_tested (suc zero) m g h l = rw (operand_mx m (omega arith), le-leb m 255 (omega arith))
bytes_tested (suc (suc zero)) m g h l = rw (operand_mx m (omega arith), le-leb m 255 (omega arith))
bytes_tested (suc (suc (suc zero))) m g h l = rw (operand_mx m (omega arith), le-leb m 255 (omega arith))
bytes_tested (suc (suc (suc (suc zero)))) m g h l = rw (operand_mx m (omega arith), le-leb m 255 (omega arith))
bytes_tested (suc (suc (suc (suc (suc k))))) m g h l = absurd (omega arith)

-- ST, S and R of one
pub bytes_stored : (k m : ℕ) → 6 < k → k < 10 → m < 256 → suc m ≡ bytes_in (unpacked k m)
unfolding unpacked kept operator_fits flip_flop_fits bytes_in bytes_for carried
bytes_stored k m g h l =
    let o : operand_of m ≡ Mx m = operand_mx m (omega arith) in
    let f : leb m 255 ≡ true = le-leb m 255 (omega arith) in
    elim (dec_le k 7) [
      | yes a ↦ let e : k ≡ 7 = omega arith in rw (e, o, f)
      | no a ↦ elim (dec_le k 8) [
        | yes b ↦ let e : k ≡ 8 = omega arith in rw (e, o, f)
        | no b ↦ let e : k ≡ 9 = omega arith in rw (e, o, f)
      ]
    ]

-- OR( and )
pub bytes_bracket : (k : ℕ) → 4 < k → k < 7 → 0 ≡ bytes_in (unpacked k 0)
unfolding unpacked bytes_in bytes_for carried
bytes_bracket k g h = elim (dec_le k 5) [
  | yes a ↦ let e : k ≡ 5 = omega arith in rw e
  | no a ↦ let e : k ≡ 6 = omega arith in rw e
]
