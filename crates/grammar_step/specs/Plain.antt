-- Words that name no block: what they do follows from the operator number alone.
use Rattle.std.specs.Prelude.{◌≡◌, refl, ℕ, ◌-◌, ◌/◌, ◌%◌, ◌≤◌, ◌<◌, true}
use Rattle.std.proofs.Common.{sym, ap, ◌∙◌, arith, le-leb}
use Rattle.std.proofs.Math.Decide.{dec_le}
use Rattle.meaning.proofs.Laws.Rows.{or_l}
use Rattle.meaning.specs.Programs.{testable, constant, flip_flop_fits, output_fits}
use Rattle.meaning.specs.declared.Operand.{Operand}
use Rattle.meaning.specs.declared.Operand.TheVariants.{Mx, Ix}
use Rattle.meaning.specs.declared.Operator.{Operator}
use Rattle.meaning.specs.declared.Operator.TheVariants.{Ld, Ldn, And, Andn, St, S, R}
use Rattle.format.specs.declared.Reading.{Reading}
use Rattle.format.specs.Decode.{parameter_fits, operator_fits, operand_of, kept, unpacked, decoded}
use Rattle.format.proofs.Laws.Decode.{in_range}
use Rattle.format.proofs.Laws.Operands.{operand_mx, operand_ix}
use Rattle.format.specs.Automata.Phases.{block, load, also, store, phase_put, phase_step, step_word}

-- a word by its two numbers
pub by_number : (s : Reading) (w k : ℕ) (r : Reading) → w / 134217728 ≡ k → step_word s (unpacked k (w % 134217728)) ≡ r → r ≡ step_word s (decoded w)
unfolding decoded
by_number s w k r e f = sym (ap (λ x. step_word s (unpacked x (w % 134217728))) e ∙ f)

-- an instruction that some list has
known_step : (s : Reading) (i : Operator) → operator_fits i ≡ true → step_word s (kept i) ≡ phase_step s i
unfolding step_word kept
known_step s i f = rw (kept, f)

-- ---- tests

-- what a test does whose operand names no block
pub record TestSteps (s : Reading) (m : ℕ) : Type 0 where
  pub ld : step_word s (unpacked 1 m) ≡ load 0 s
  pub ldn : step_word s (unpacked 2 m) ≡ load 0 s
  pub and : step_word s (unpacked 3 m) ≡ also 0 s
  pub andn : step_word s (unpacked 4 m) ≡ also 0 s

tests : (s : Reading) (m : ℕ) (o : Operand) → operand_of m ≡ o → testable 32 o ≡ true → block o ≡ 0 → TestSteps s m
unfolding unpacked operator_fits phase_step
tests s m o e t b = record {
  ld = ap (λ x. step_word s (kept (Ld x))) e ∙ known_step s (Ld o) (or_l (testable 32 o) (constant o) t) ∙ ap (λ n. load n s) b;
  ldn = ap (λ x. step_word s (kept (Ldn x))) e ∙ known_step s (Ldn o) t ∙ ap (λ n. load n s) b;
  and = ap (λ x. step_word s (kept (And x))) e ∙ known_step s (And o) t ∙ ap (λ n. also n s) b;
  andn = ap (λ x. step_word s (kept (Andn x))) e ∙ known_step s (Andn o) t ∙ ap (λ n. also n s) b;
}

-- of %MX
pub mx_tests : (s : Reading) (m : ℕ) → m ≤ 255 → TestSteps s m
unfolding testable block
mx_tests s m h = tests s m (Mx m) (operand_mx m (omega arith)) (le-leb m 255 h) refl

-- of %IX
pub ix_tests : (s : Reading) (m : ℕ) → 385 ≤ m → m ≤ 448 → TestSteps s m
unfolding testable block
ix_tests s m h k = tests s m (Ix (m - 384)) (operand_ix m h (omega arith)) (in_range 1 64 (m - 384) (omega arith) (omega arith)) refl

-- ---- stores to %MX

pub record StoreSteps (s : Reading) (m : ℕ) : Type 0 where
  pub st : step_word s (unpacked 7 m) ≡ store s
  pub set : step_word s (unpacked 8 m) ≡ store s
  pub reset : step_word s (unpacked 9 m) ≡ store s

pub mx_stored : (s : Reading) (m : ℕ) → m ≤ 255 → StoreSteps s m
unfolding unpacked operator_fits flip_flop_fits output_fits parameter_fits phase_step phase_put
mx_stored s m h = record {
  st = ap (λ x. step_word s (kept (St x))) (operand_mx m (omega arith)) ∙ known_step s (St (Mx m)) (rw (le-leb m 255 h));
  set = ap (λ x. step_word s (kept (S x))) (operand_mx m (omega arith)) ∙ known_step s (S (Mx m)) (le-leb m 255 h);
  reset = ap (λ x. step_word s (kept (R x))) (operand_mx m (omega arith)) ∙ known_step s (R (Mx m)) (le-leb m 255 h);
}

-- ---- by the ranges that the two numbers are in

-- a test on %MX (0 to 255) or %IX (385 to 448)
plain_tests : (s : Reading) (m : ℕ) → m ≤ 448 → (255 < m → 384 < m) → TestSteps s m
plain_tests s m a b = elim (dec_le m 255) [ yes h ↦ mx_tests s m h | no h ↦ ix_tests s m (b (omega arith)) a ]

module _ (s : Reading) (w : ℕ) where
  -- LD (1) and LDN (2)
  pub loads : 1 ≤ w / 134217728 → w / 134217728 ≤ 2 → w % 134217728 ≤ 448 → (255 < w % 134217728 → 384 < w % 134217728) → load 0 s ≡ step_word s (decoded w)
  loads a b c d =
      let t = plain_tests s (w % 134217728) c d in elim (dec_le (w / 134217728) 1) [
        | yes h ↦ by_number s w 1 (load 0 s) (omega arith) t.ld
        | no h ↦ by_number s w 2 (load 0 s) (omega arith) t.ldn
      ]

  -- AND (3) and ANDN (4)
  pub adds : 3 ≤ w / 134217728 → w / 134217728 ≤ 4 → w % 134217728 ≤ 448 → (255 < w % 134217728 → 384 < w % 134217728) → also 0 s ≡ step_word s (decoded w)
  adds a b c d =
      let t = plain_tests s (w % 134217728) c d in elim (dec_le (w / 134217728) 3) [
        | yes h ↦ by_number s w 3 (also 0 s) (omega arith) t.and
        | no h ↦ by_number s w 4 (also 0 s) (omega arith) t.andn
      ]

  -- ST (7), S (8) and R (9), on %MX
  pub stores : 7 ≤ w / 134217728 → w / 134217728 ≤ 9 → w % 134217728 ≤ 255 → store s ≡ step_word s (decoded w)
  stores a b c =
      let t = mx_stored s (w % 134217728) c in elim (dec_le (w / 134217728) 7) [
        | yes h ↦ by_number s w 7 (store s) (omega arith) t.st
        | no h ↦ elim (dec_le (w / 134217728) 8) [
          | yes g ↦ by_number s w 8 (store s) (omega arith) t.set
          | no g ↦ by_number s w 9 (store s) (omega arith) t.reset
        ]
      ]
