-- The number goes to the word of its state, if there is such a word.
use Rattle.std.proofs.Common.{◌≡◌, ◌≤◌, ℕ, ◌||◌, sym, arith, get_or, eqb}
use borrow.Author.Tests.{lt-leb, le-leb, ne_eqb}
use native.Mathlib.Decide.{dec_le}
use Rattle.std.proofs.Math.Bool.{or-false}
use Rattle.meaning.specs.Literals.{input_on}
use Rattle.slices.specs.Numbers.{with_number}
use Rattle.slices.specs.NumbersLaws.{numbered}
use Rattle.check_pairing.specs.WordsLaws.{added}
use Rattle.check_pairing.proofs.add_row.Goals as goal

-- which numbers the word r has, where any number was put into w
put : (r w m n : ℕ) → r ≡ with_number w m → 1 ≤ n → n ≤ 64 → input_on r n ≡ (input_on w n || eqb m n)
unfolding with_number
put r w m n e h k = elim (dec_le 1 m) [
  | yes l ↦ elim (dec_le m 64) [
    | yes g ↦ numbered r w m n e l g h
    | no g ↦ rw (e, le-leb 1 m l, lt-leb m 64 (omega arith), ne_eqb m n (λ z. omega (arith, z))) (sym (or-false (input_on w n)))
  ]
  | no l ↦ rw (e, lt-leb 1 m (omega arith), ne_eqb m n (λ z. omega (arith, z))) (sym (or-false (input_on w n)))
]

pub returns-then-a-words : goal.returns-then-a-words
returns-then-a-words c n l h k g =
    let a = c.args in
    let p = c.pair_state-a in
    let q = c.pair_number-n in
    let w = c.with_number in
    added a.pairs.now a.words.now n l a.i w.result p.result q.result p.ensures q.ensures g (put w.result (get_or a.words.now p.result 0) q.result n w.ensures h k)
