-- Laws of Layout.antt, and of codes in flip-flops.
use Rattle.std.specs.Prelude.{◌≡◌, refl, ◌≢◌, ◌⊎◌, ℕ, zero, suc, ◌+◌, ◌*◌, ◌-◌, ◌/◌, ◌%◌, ◌^◌, ◌≤◌, ◌<◌, Bool, true, false, cond, ◌&&◌, List, length, set, eqb}
use Rattle.std.proofs.Common.{sym, ap, ◌∙◌, inl, inr, le_antisymm, arith, true≢false, length-set, get_or-set_same, get_or-set_other, pow_pos, pow_mono}
use Rattle.std.proofs.Math.Nat.{lt_of_lt_of_le}
use Rattle.std.proofs.Math.Decide.{ℕ_discrete}
use Rattle.std.specs.Bool.{beq}
use Rattle.std.proofs.Math.Bool.{and-true}
use Rattle.std.specs.Int.Count.{count_leading_zeros}
use Rattle.std.proofs.lemmas.Nat.{leading_length}
use borrow.Author.Tests.{eqb-true, eq-eqb, ne_eqb}
use Rattle.meaning.specs.Rows.{count, table}
use Rattle.meaning.proofs.Laws.Rows.{bit_small, same_test, count_past, count_less, count_at}
use Rattle.meaning.specs.Tables.{Tables, state_count, initial}
use Rattle.meaning.specs.Hierarchy.{sub_state, sub_states}
use Rattle.meaning.proofs.Laws.Hierarchy.{sub_state_tells}
use Rattle.meaning.specs.Layout.{significant_in, significant, width, group_width, group_first, flip_flop_count, other_sub_state, code}
use Rattle.meaning.specs.Machine.{word_of}
use Rattle.meaning.specs.Programs.{all}
use Rattle.meaning.specs.Scan.{Controller, flip_flop_on, value_of}
use Rattle.meaning.specs.Written.{bits_from, bit_test}
use Rattle.meaning.specs.Stands.{code_at}

-- ---- the width

-- k bits hold n codes, and no smaller number of bits does
pub record Least (n k : ℕ) : Type 0 where
  pub holds : n ≤ 2 ^ k
  pub least : (j : ℕ) → n ≤ 2 ^ j → k ≤ j

-- no second answer
pub one_least : {n k j : ℕ} → Least n k → Least n j → k ≡ j
one_least {k = k} {j = j} p q = le_antisymm (p.least j q.holds) (q.least k p.holds)

-- a number is below the power of its significant bits
significant_holds : (k n : ℕ) → n ≤ k → n < 2 ^ significant_in k n
unfolding significant_in
significant_holds zero n h = omega arith
significant_holds (suc k) zero h = omega arith
significant_holds (suc k) (suc n) h =
    let e : suc n < 2 ^ suc (significant_in k (suc n / 2)) = omega (arith, significant_holds k (suc n / 2) (omega arith)) in e

-- and below no smaller power
significant_least : (k n j : ℕ) → n < 2 ^ j → significant_in k n ≤ j
unfolding significant_in
significant_least zero n j h = omega arith
significant_least (suc k) zero j h = omega arith
significant_least (suc k) (suc n) zero h = absurd (omega arith)
significant_least (suc k) (suc n) (suc j) h = omega (arith, significant_least k (suc n / 2) j (omega arith))

-- "No smaller number holds n codes."
pub width_least : (n : ℕ) → Least n (width n)
unfolding width significant
width_least n = record {
  holds = omega (arith, significant_holds (n - 1) (n - 1) (omega arith));
  least = λ j h. significant_least (n - 1) (n - 1) j (omega (arith, pow_pos j));
}

-- of any k bits that hold n - 1, the width is what the leading zeros leave
pub width_leading : (k n : ℕ) → n - 1 < 2 ^ k → k - count_leading_zeros k (n - 1) ≡ width n
width_leading k n h =
    let s = leading_length k (n - 1) h in
    let e : k - count_leading_zeros k (n - 1) ≡ s.0 = omega (arith, s.1) in
    let below : (j : ℕ) → n ≤ 2 ^ j → j < s.0 → ⊥ = λ j g l. omega (arith, s.3, pow_mono l, pow_pos j) in
    e ∙ one_least (record { holds = omega (arith, s.2); least = λ j g. omega (arith, below j g) }) (width_least n)

-- ---- codes

module _ (c : Tables) (a : ℕ) (good : sub_state c a (initial c a) ≡ true) where
  -- the initial sub-state is not one of the others
  initial_not_other : other_sub_state c a (initial c a) ≡ false
  unfolding other_sub_state
  initial_not_other = rw (good, eq-eqb (initial c a) (initial c a) refl)

  -- any other state is one of them exactly where it is a sub-state
  other_is : (s : ℕ) → s ≢ initial c a → other_sub_state c a s ≡ sub_state c a s
  unfolding other_sub_state
  other_is s n = rw (ne_eqb s (initial c a) n) (and-true (sub_state c a s))

  -- there is one sub-state more than others
  others : suc (count (other_sub_state c a) (state_count c)) ≡ sub_states c a
  unfolding sub_states
  others = count_less (sub_state c a) (other_sub_state c a) (initial c a) other_is initial_not_other good (state_count c) ((sub_state_tells c a (initial c a)).0 good).known

  -- "Its initial sub-state has code 0"
  pub code_initial : code c (initial c a) ≡ 0
  unfolding code
  code_initial = rw (code, ((sub_state_tells c a (initial c a)).0 good).under, eq-eqb (initial c a) (initial c a) refl)

  -- "the others 1, 2, and so on by rising state number"
  pub code_other : (s : ℕ) → sub_state c a s ≡ true → s ≢ initial c a → code c s ≡ suc (count (other_sub_state c a) s)
  unfolding code
  code_other s e n = rw (code, ((sub_state_tells c a s).0 e).under, ne_eqb s (initial c a) n)

  -- every code is below the number of sub-states
  pub code_lt : (s : ℕ) → sub_state c a s ≡ true → code c s < sub_states c a
  code_lt s e = elim (ℕ_discrete s (initial c a)) [
    | yes x ↦ rw (x, code_initial) (omega (arith, others))
    | no n ↦ omega (arith, others, code_other s e n, count_past (other_sub_state c a) s (state_count c) ((sub_state_tells c a s).0 e).known (other_is s n ∙ e))
  ]

  -- so the group of the super-state holds it
  pub code_fits : (s : ℕ) → sub_state c a s ≡ true → code c s < 2 ^ group_width c a
  unfolding group_width
  code_fits s e = lt_of_lt_of_le (code_lt s e) (width_least (sub_states c a)).holds

  -- a later sub-state has another code
  code_past : (s t : ℕ) → sub_state c a s ≡ true → sub_state c a t ≡ true → s < t → code c s ≢ code c t
  code_past s t p q h z = elim (ℕ_discrete s (initial c a)) [
    | yes x ↦ omega (arith, z, rw (← x) at code_initial, code_other t q (omega arith))
    | no n ↦ elim (ℕ_discrete t (initial c a)) [
      | yes y ↦ omega (arith, z, rw (← y) at code_initial, code_other s p n)
      | no m ↦ omega (arith, z, code_other s p n, code_other t q m, count_past (other_sub_state c a) s t h (other_is s n ∙ p))
    ]
  ]

  -- no two sub-states have one code
  pub code_once : (s t : ℕ) → sub_state c a s ≡ true → sub_state c a t ≡ true → code c s ≡ code c t → s ≡ t
  code_once s t p q z =
      let f : s < t → ⊥ = λ h. code_past s t p q h z in
      let g : t < s → ⊥ = λ h. code_past t s q p h (sym z) in
      omega (arith, f, g)

  -- every number below the number of sub-states is a code
  pub code_all : (k : ℕ) → k < sub_states c a → (s : ℕ) × (sub_state c a s ≡ true) × (code c s ≡ k)
  code_all zero h = (initial c a, good, code_initial)
  code_all (suc k) h =
      let r = count_at (other_sub_state c a) (state_count c) k (omega (arith, others)) in
      let n : r.0 ≢ initial c a = λ e. true≢false (sym r.2 ∙ ap (other_sub_state c a) e ∙ initial_not_other) in
      let p : sub_state c a r.0 ≡ true = sym (other_is r.0 n) ∙ r.2 in
      (r.0, p, code_other r.0 p n ∙ ap suc r.3)

-- ---- bits

-- the lowest bit of a number, as a test and back
pub bit_of : (d : ℕ) → cond (eqb (d % 2) 1) 1 0 ≡ d % 2
bit_of d = elim (ℕ_discrete (d % 2) 1) [ yes e ↦ rw e | no n ↦ rw (ne_eqb (d % 2) 1 n) (omega arith) ]

-- w flip-flops hold a number of w bits
pub code_at_lt : (fs : List ℕ) (o w : ℕ) → code_at fs o w < 2 ^ w
unfolding code_at word_of table
code_at_lt fs o zero = omega arith
code_at_lt fs o (suc w) = omega (arith, code_at_lt fs (suc o) w, bit_small (flip_flop_on fs o))

-- two numbers with one lowest bit are equal exactly where the rests are
same_rest : (v m n : ℕ) → eqb m n ≡ eqb (v + 2 * m) (v + 2 * n)
same_rest v m n = same_test (eqb m n) (eqb (v + 2 * m) (v + 2 * n))
    (λ e. eq-eqb (v + 2 * m) (v + 2 * n) (omega (arith, eqb-true m n e)))
    (λ e. eq-eqb m n (omega (arith, eqb-true (v + 2 * m) (v + 2 * n) e)))

-- two numbers are equal exactly where their lowest bits and the rests are
same_bits : (a b : Bool) (m n : ℕ) → (beq a b && eqb m n) ≡ eqb (cond b 1 0 + 2 * m) (cond a 1 0 + 2 * n)
same_bits true true m n = same_rest 1 m n
same_bits true false m n = sym (ne_eqb (0 + 2 * m) (1 + 2 * n) (λ e. omega arith))
same_bits false true m n = sym (ne_eqb (1 + 2 * m) (0 + 2 * n) (λ e. omega arith))
same_bits false false m n = same_rest 0 m n

-- the tests of a code pass exactly where the flip-flops hold it
pub tests_pass : (c : Tables) (x : ℕ) (k : Controller) (o w d : ℕ) → d < 2 ^ w → all (λ t. beq t.wanted (value_of x k t.operand)) (bits_from (bit_test c) o w d) ≡ eqb (code_at k.flip_flops o w) d
unfolding all bits_from bit_test value_of code_at word_of table
tests_pass c x k o zero d h = sym (eq-eqb 0 d (omega arith))
tests_pass c x k o (suc w) d h =
    let e : cond (eqb (d % 2) 1) 1 0 + 2 * (d / 2) ≡ d = omega (arith, bit_of d) in
    let b = flip_flop_on k.flip_flops o in
    let m = code_at k.flip_flops (suc o) w in
    ap (λ t. beq (eqb (d % 2) 1) b && t) (tests_pass c x k (suc o) w (d / 2) (omega arith))
    ∙ same_bits (eqb (d % 2) 1) b m (d / 2) ∙ ap (eqb (cond b 1 0 + 2 * m)) e

-- the w lowest bits of d written to the flip-flops from o on, lowest first
unfoldable pub bits_written : List ℕ → ℕ → ℕ → ℕ → List ℕ
bits_written fs o zero d = fs
bits_written fs o (suc w) d = bits_written (set fs o (d % 2)) (suc o) w (d / 2)

-- writing keeps the length
pub written_length : (fs : List ℕ) (o w d : ℕ) → length (bits_written fs o w d) ≡ length fs
unfolding bits_written
written_length fs o zero d = refl
written_length fs o (suc w) d = written_length (set fs o (d % 2)) (suc o) w (d / 2) ∙ length-set fs o (d % 2)

-- writing keeps the flip-flops outside
pub written_outside : (fs : List ℕ) (o w d i : ℕ) → (i < o) ⊎ (o + w ≤ i) → flip_flop_on (bits_written fs o w d) i ≡ flip_flop_on fs i
unfolding bits_written flip_flop_on
written_outside fs o zero d i h = refl
written_outside fs o (suc w) d i h =
    written_outside (set fs o (d % 2)) (suc o) w (d / 2) i (elim h [ inl l ↦ inl (omega arith) | inr l ↦ inr (omega arith) ])
    ∙ rw (get_or-set_other fs o i (d % 2) 0 (elim h [ inl l ↦ omega arith | inr l ↦ omega arith ]))

-- what is written is read back
pub written_read : (fs : List ℕ) (o w d : ℕ) → d < 2 ^ w → o + w ≤ length fs → code_at (bits_written fs o w d) o w ≡ d
unfolding bits_written flip_flop_on code_at word_of table
written_read fs o zero d h l = omega arith
written_read fs o (suc w) d h l =
    let gs = set fs o (d % 2) in
    let rest = written_read gs (suc o) w (d / 2) (omega arith) (omega (arith, length-set fs o (d % 2))) in
    let first : flip_flop_on (bits_written gs (suc o) w (d / 2)) o ≡ eqb (d % 2) 1 = written_outside gs (suc o) w (d / 2) o (inl (omega arith)) ∙ rw (get_or-set_same fs o (d % 2) 0 (omega arith)) in
    rw first (omega (arith, bit_of d, rest))

-- ---- groups

-- a group ends before the next begins
pub group_apart : (c : Tables) (a b : ℕ) → a < b → group_first c a + group_width c a ≤ group_first c b
unfolding group_first
group_apart c a zero h = absurd (omega arith)
group_apart c a (suc b) h = elim (ℕ_discrete a b) [ yes e ↦ rw e (omega arith) | no n ↦ omega (arith, group_apart c a b (omega arith)) ]

-- and ends within the flip-flops
pub group_fits : (c : Tables) (a : ℕ) → a < state_count c → group_first c a + group_width c a ≤ flip_flop_count c
unfolding flip_flop_count
group_fits c a h = group_apart c a (state_count c) h
