-- A word with one bit more, and the word of the outputs that are on.
use Rattle.std.specs.Prelude.{◌≡◌, refl, true, cond, ◌&&◌, ◌||◌, eqb}
use Rattle.std.proofs.Common.{sym, ◌∙◌, inl, inr, add-one, ne_eqb}
use Rattle.std.proofs.Math.Path.{ap}
use Prim.Native.Nat.{ℕ, zero, suc, ◌+◌, ◌/◌, ◌%◌, ◌^◌, ◌≤◌, ◌<◌}
use native.Mathlib.Omega.{arith}
use Rattle.std.proofs.Math.Decide.{dec_le}
use Rattle.std.proofs.Math.Nat.{pow-succ'}
use Rattle.std.proofs.Math.Bool.{Bool, false, and-true, and-false, or-false}
use Rattle.std.proofs.Math.ListN.{get_or, get_or-eq_default}
use Rattle.std.specs.Int.Bits.{bit_and}
use Rattle.meaning.specs.Literals.{input_on}
use Rattle.meaning.proofs.Laws.Bits.{even, low_bit, half_bit, eqb_suc}
use Rattle.meaning.specs.Machine.{word_of}
use Rattle.meaning.specs.Rows.{table}
use Rattle.meaning.proofs.Laws.Rows.{some_none, length_table, get_d_table}
use Rattle.meaning.specs.Tables.{Tables, pair_count, pair_number, pair_state}
use Rattle.meaning.specs.Hierarchy.{at_or_above, paired, output_on}
use Rattle.meaning.specs.Rules.{Rules}
use Rattle.meaning.proofs.Laws.Outputs.{word_table}
use Rattle.slices.specs.Numbers.{with_number}
use Rattle.slices.specs.NumbersLaws.{numbered}

-- a word with number k + 1 too if b, else as it was
pub with_bit_if : (w k n : ℕ) (b : Bool) → k < 64 → input_on (cond b (with_number w (k + 1)) w) (suc n) ≡ (input_on w (suc n) || (eqb k n && b))
with_bit_if w k n true h = rw (and-true (eqb k n), add-one) (numbered (with_number w (suc k)) w (suc k) (suc n) refl (omega arith) (omega arith) (omega arith) ∙ ap (λ b. input_on w (suc n) || b) (sym (eqb_suc k n)))
with_bit_if w k n false h = rw (and-false (eqb k n)) (sym (or-false (input_on w (suc n))))

-- a word is what its bits make
pub word_is : (f : ℕ → Bool) (i n w : ℕ) → w < 2 ^ n → ((k : ℕ) → k < n → input_on w (suc k) ≡ f (i + k)) → w ≡ word_of (table f i n)
unfolding word_of table
word_is f i zero w h g = omega arith
word_is f i (suc n) w h g =
    let p = pow-succ' 2 n in
    let r = word_is f (suc i) n (w / 2) (omega (arith, p)) (λ k z. sym (half_bit w k) ∙ g (suc k) (omega arith) ∙ (let e : i + suc k ≡ suc i + k = omega arith in rw e)) in
    let s : eqb (w % 2) 1 ≡ f i = sym (low_bit w) ∙ g 0 (omega arith) ∙ (let e : i + 0 ≡ i = omega arith in rw e) in
    elim (even w) [
      | inl e ↦ (let t : f i ≡ false = sym s ∙ rw e in rw (t, ← r) (omega arith))
      | inr e ↦ (let t : f i ≡ true = sym s ∙ rw e in rw (t, ← r) (omega arith))
    ]

-- ---- no bit in common

-- x has none of the bits of w
abbrev pub none : ℕ → ℕ → Bool
none x w = eqb (bit_and x w) 0

module _ (c : Tables) (R : Rules c) where
  -- the word of the outputs that are on
  pub word_seen : (l w : ℕ) → w < 2 ^ 64 → ((n : ℕ) → n < 64 → input_on w (suc n) ≡ paired c c.output_pairs (suc n) l) → w ≡ word_of (table (λ o. output_on c o l) 1 c.outputs)
  unfolding output_on
  word_seen l w h g =
      let on : ℕ → Bool = λ o. paired c c.output_pairs o l in
      word_is on 1 64 w h (λ k z. g k z ∙ (let e : suc k ≡ 1 + k = omega arith in ap on e))
      ∙ word_table on 1 c.outputs (table on 1 64) (rw (length_table on 1 64) R.size.few_outputs) (λ k z. get_d_table on 1 64 k false (omega (arith, R.size.few_outputs))) beyond
    where
      beyond : (k : ℕ) → c.outputs ≤ k → get_or (table (λ o. paired c c.output_pairs o l) 1 64) k false ≡ false
      beyond k h = elim (dec_le (suc k) 64) [
        | yes z ↦ get_d_table _ 1 64 k false z ∙ unfold paired in (some_none _ 0 (pair_count c.output_pairs) (λ i a b.
            ap (λ d. d && at_or_above c (pair_state c.output_pairs i) l) (ne_eqb (pair_number c.output_pairs i) (1 + k) (λ e. omega (arith, e, (R.output_pairs i (omega arith)).high)))))
        | no z ↦ get_or-eq_default (table _ 1 64) false (rw (length_table (λ o. paired c c.output_pairs o l) 1 64) (omega arith))
      ]
