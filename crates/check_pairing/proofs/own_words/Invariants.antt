-- The rows before row i are in the words.
use Rattle.std.proofs.Common.{◌≡◌, ℕ, ◌≤◌, ◌<◌, length, get_or}
use Rattle.meaning.specs.Rows.{some}
use Rattle.meaning.specs.Literals.{input_on}
use Rattle.check_pairing.specs.Words.{row_at, Clear}
use Rattle.check_pairing.proofs.own_words.Given as goal

abbrev pub invariant-loop-i : goal.invariant-loop-i
invariant-loop-i l = (length l.words ≡ length l.initial.words)
    × (Clear l.initial.words → (n s : ℕ) → 1 ≤ n → n ≤ 64 → s < length l.initial.words → input_on (get_or l.words s 0) n ≡ some (row_at l.pairs n s) 0 l.i)
