-- The line of a word by its two numbers, that it is its instruction's, and the lines one after the other.
use Rattle.format.specs.Decode.{Decoded}
use Rattle.std.specs.Prelude.{◌≡◌, refl, ℕ, ◌+◌, ◌/◌, ◌%◌, ◌<◌, length, get_or, take, Bool, true, false, cond, eqb, Some, None}
use Rattle.std.proofs.Common.{ap, ap₂, add-one, arith, take-suc}
use mathlib.Core.List.{List, [], ◌∷◌, ◌++◌, map, flat_map, append-nil}
use Rattle.meaning.proofs.Laws.Rows.{and_l, and_r, flat_map_append}
use Rattle.meaning.specs.Programs.{all}
use Rattle.meaning.specs.declared.Operator.{Operator}
use Rattle.meaning.specs.declared.Operator.TheVariants.{Ld, Ldn, And, Andn, Or, Close, St, S, R, Cal, LdTime}
use Rattle.format.specs.Words.{word}
use Rattle.format.specs.Text.{operator_text, line}
use Rattle.format.specs.Decode.{operator_fits, operand_of, kept, unpacked, decoded}
use Rattle.format.proofs.Laws.Decode.{decode_word}
use Rattle.write_word_lines.specs.Stores.{store_of}

-- any operator by its number k and operand m, likewise
unfoldable pub operator_of : ℕ → ℕ → Operator
operator_of k m = cond (eqb k 1) (Ld (operand_of m))
    (cond (eqb k 2) (Ldn (operand_of m))
    (cond (eqb k 3) (And (operand_of m))
    (cond (eqb k 4) (Andn (operand_of m))
    (cond (eqb k 5) Or
    (cond (eqb k 6) Close (store_of k m))))))

abbrev pub word_line : ℕ → List ℕ
word_line n = line (operator_text (operator_of (n / 134217728) (n % 134217728)))

-- ---- from the two numbers

-- what both answers of a test lead to
known_both : (b : Bool) (d e : Decoded) (j i : Operator) → (d ≡ Some i → j ≡ i) → (e ≡ Some i → j ≡ i) → cond b d e ≡ Some i → j ≡ i
known_both true d e j i f g h = f h
known_both false d e j i f g h = g h

known_none : (j i : Operator) → None ≡ Some i → j ≡ i
known_none j i e = let z : ◌≡◌ {A = ℕ} 0 1 = cc in absurd (omega arith)

-- an instruction that is kept under a test is itself
known_only : (b : Bool) (j i : Operator) → cond b (Some j) None ≡ Some i → j ≡ i
known_only b j i = known_both b (Some j) None j i (λ e. cc) (known_none j i)

-- the same test of the number on both sides
known_test : (b : Bool) (d e : Decoded) (j o i : Operator) → (d ≡ Some i → j ≡ i) → (e ≡ Some i → o ≡ i) → cond b d e ≡ Some i → cond b j o ≡ i
known_test true d e j o i f g h = f h
known_test false d e j o i f g h = g h

known_kept : (j i : Operator) → kept j ≡ Some i → j ≡ i
unfolding kept
known_kept j i = known_only (operator_fits j) j i

-- a word that decodes is the operator with the operand that its numbers name
by_numbers : (k m : ℕ) (i : Operator) → unpacked k m ≡ Some i → operator_of k m ≡ i
unfolding unpacked store_of operator_of
by_numbers k m i =
    known_test (eqb k 1) _ _ _ _ i (known_kept (Ld (operand_of m)) i)
    (known_test (eqb k 2) _ _ _ _ i (known_kept (Ldn (operand_of m)) i)
    (known_test (eqb k 3) _ _ _ _ i (known_kept (And (operand_of m)) i)
    (known_test (eqb k 4) _ _ _ _ i (known_kept (Andn (operand_of m)) i)
    (known_test (eqb k 5) _ _ _ _ i (known_only (eqb m 0) Or i)
    (known_test (eqb k 6) _ _ _ _ i (known_only (eqb m 0) Close i)
    (known_test (eqb k 7) _ _ _ _ i (known_kept (St (operand_of m)) i)
    (known_test (eqb k 8) _ _ _ _ i (known_kept (S (operand_of m)) i)
    (known_test (eqb k 9) _ _ _ _ i (known_kept (R (operand_of m)) i)
    (known_test (eqb k 10) _ _ _ _ i (known_kept (Cal (operand_of m)) i)
    (known_both (eqb k 11) _ _ _ i (known_kept (LdTime m) i) (known_none (LdTime m) i)))))))))))

pub lines_same : (is : List Operator) → all operator_fits is ≡ true → flat_map word_line (map word is) ≡ flat_map (λ i. line (operator_text i)) is
unfolding all flat_map decoded
lines_same [] f = refl
lines_same (i ∷ is) f =
    let e = by_numbers (word i / 134217728) (word i % 134217728) i (decode_word i (and_l (operator_fits i) _ f)) in
    ap₂ ◌++◌ (ap (λ o. line (operator_text o)) e) (lines_same is (and_r (operator_fits i) _ f))

-- ---- one line after the other

pub lines_next : (l : List ℕ) (i : ℕ) → i < length l → flat_map word_line (take (i + 1) l) ≡ flat_map word_line (take i l) ++ word_line (get_or l i 0)
unfolding flat_map
lines_next l i h = rw (add-one, take-suc l i 0 h, flat_map_append word_line (take i l) (get_or l i 0 ∷ []), append-nil)
