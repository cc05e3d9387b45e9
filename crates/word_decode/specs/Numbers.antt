-- Instructions by the two numbers of their word, operator k and operand m: which operands an operator takes, as ranges of numbers.
use Rattle.std.specs.Prelude.{◌≡◌, ◌⊎◌, ℕ, ◌-◌, ◌≤◌, ◌<◌, true, false, cond, eqb, Some, None}
use Rattle.std.proofs.Math.Path.{refl}
use Rattle.std.proofs.Common.{sym, ◌∙◌, inl, inr, arith}
use Rattle.std.proofs.Math.Decide.{dec_le}
use Rattle.std.proofs.Math.Bool.{or-false}
use Rattle.std.proofs.lemmas.Bool.{false≢true}
use borrow.Author.Tests.{leb-true, le-leb, lt-leb, ne_eqb}
use Rattle.meaning.proofs.Laws.Rows.{which, or_l, or_cases}
use Rattle.meaning.specs.Programs.{testable, constant, flip_flop_fits, output_fits}
use Rattle.meaning.specs.declared.Operand.{Operand}
use Rattle.meaning.specs.declared.Operand.TheVariants.{Mx, Ix, Qx, TimerQ, TimerIn, TimerPt, Timer, False, True}
use Rattle.meaning.specs.declared.Operator.{Operator}
use Rattle.meaning.specs.declared.Operator.TheVariants.{Ld, Ldn, And, Andn, St, S, R, Cal, LdTime}
use Rattle.format.specs.Decode.{parameter_fits, block_fits, operator_fits, operand_of, kept, unpacked}
use Rattle.format.proofs.Laws.Decode.{within, in_range}
use Rattle.format.proofs.Laws.Operands.{operand_mx, operand_ix, operand_qx, operand_timer_q, operand_timer_in, operand_timer_pt, operand_timer}

-- ---- the operand of a number

past : (m : ℕ) → 1999 < m → operand_of m ≡ cond (eqb m 2000) False (cond (eqb m 2001) True (Timer 0))
unfolding operand_of
past m h = rw (lt-leb m 384 (omega arith), lt-leb m 512 (omega arith), lt-leb m 768 (omega arith), lt-leb m 1024 (omega arith), lt-leb m 1280 (omega arith), lt-leb m 1536 (omega arith), lt-leb m 1999 h)

-- what holds of an operand where it has its number holds of the operand of m
module _ (m : ℕ) (P : Operand → Type 0) where
  pub by_number : (m ≤ 384 → P (Mx m)) → (384 < m → P (Ix (m - 384))) → (512 < m → P (Qx (m - 512))) → (768 < m → P (TimerQ (m - 768))) → (1024 < m → P (TimerIn (m - 1024)))
      → (1280 < m → P (TimerPt (m - 1280))) → (1536 < m → P (Timer (m - 1536))) → (m ≡ 2000 → P False) → (m ≡ 2001 → P True) → P (Timer 0) → P (operand_of m)
  by_number a b c d e f g h i j = elim (dec_le m 384) [
    | yes n ↦ rw (operand_mx m n) (a n)
    | no n₁ ↦ elim (dec_le m 512) [
      | yes n ↦ rw (operand_ix m (omega arith) n) (b (omega arith))
      | no n₂ ↦ elim (dec_le m 768) [
        | yes n ↦ rw (operand_qx m (omega arith) n) (c (omega arith))
        | no n₃ ↦ elim (dec_le m 1024) [
          | yes n ↦ rw (operand_timer_q m (omega arith) n) (d (omega arith))
          | no n₄ ↦ elim (dec_le m 1280) [
            | yes n ↦ rw (operand_timer_in m (omega arith) n) (e (omega arith))
            | no n₅ ↦ elim (dec_le m 1536) [
              | yes n ↦ rw (operand_timer_pt m (omega arith) n) (f (omega arith))
              | no n₆ ↦ elim (dec_le m 1999) [
                | yes n ↦ rw (operand_timer m (omega arith) n) (g (omega arith))
                | no n₇ ↦ elim (dec_le m 2000) [
                  | yes n ↦ let e : m ≡ 2000 = omega arith in rw (past m (omega arith), e) (h e)
                  | no n₈ ↦ elim (dec_le m 2001) [
                    | yes n ↦ let e : m ≡ 2001 = omega arith in rw (past m (omega arith), e) (i e)
                    | no n₉ ↦ rw (past m (omega arith), ne_eqb m 2000 (λ e. omega arith), ne_eqb m 2001 (λ e. omega arith)) j
                  ]
                ]
              ]
            ]
          ]
        ]
      ]
    ]
  ]

never : {A : Type 0} → false ≡ true → A
never e = absurd (false≢true e)

-- ---- kept or not

pub decodes_known : (k m : ℕ) (i : Operator) → unpacked k m ≡ kept i → operator_fits i ≡ true → Some i ≡ unpacked k m
unfolding kept
decodes_known k m i e h = sym (e ∙ rw h)

pub unknown : (k m : ℕ) (i : Operator) → unpacked k m ≡ kept i → (operator_fits i ≡ true → ⊥) → None ≡ unpacked k m
unfolding kept
unknown k m i e h = elim (which (operator_fits i)) [ inl f ↦ absurd (h f) | inr f ↦ sym (e ∙ rw f) ]

-- operator k is f of the operand
abbrev pub Unpacks : ℕ → (Operand → Operator) → Type 0
Unpacks k f = (m : ℕ) → unpacked k m ≡ kept (f (operand_of m))

-- ---- LD, LDN, AND, ANDN

-- operator k is the test f
pub record TestOperator (k : ℕ) (f : Operand → Operator) : Type 0 where
  pub unpacks : Unpacks k f
  pub fits : (o : Operand) → testable 32 o ≡ true → operator_fits (f o) ≡ true
  -- TRUE and FALSE after LD (1) only
  pub only : (o : Operand) → operator_fits (f o) ≡ true → (testable 32 o ≡ true) ⊎ ((k ≡ 1) × (constant o ≡ true))

pub ld : TestOperator 1 Ld
unfolding unpacked operator_fits
ld = record { unpacks = λ m. refl; fits = λ o e. or_l (testable 32 o) (constant o) e; only = λ o e. elim (or_cases (testable 32 o) (constant o) e) [ inl a ↦ inl a | inr b ↦ inr (refl, b) ] }

pub ldn : TestOperator 2 Ldn
unfolding unpacked operator_fits
ldn = record { unpacks = λ m. refl; fits = λ o e. e; only = λ o e. inl e }

pub and : TestOperator 3 And
unfolding unpacked operator_fits
and = record { unpacks = λ m. refl; fits = λ o e. e; only = λ o e. inl e }

pub andn : TestOperator 4 Andn
unfolding unpacked operator_fits
andn = record { unpacks = λ m. refl; fits = λ o e. e; only = λ o e. inl e }

untested : (m : ℕ) → 255 < m → (384 < m → 448 < m) → (768 < m → 800 < m) → testable 32 (operand_of m) ≡ true → ⊥
unfolding testable
untested m a b c =
    by_number m (λ o. testable 32 o ≡ true → ⊥) (λ h e. omega (arith, leb-true m 255 e)) (λ h e. omega (arith, b h, (within 1 64 (m - 384) e).1)) (λ h e. never e)
    (λ h e. omega (arith, c h, (within 1 32 (m - 768) e).1)) (λ h e. never e) (λ h e. never e) (λ h e. never e) (λ h e. never e) (λ h e. never e) (λ e. never e)

not_constant : (m : ℕ) → (m ≡ 2000 → ⊥) → (m ≡ 2001 → ⊥) → constant (operand_of m) ≡ true → ⊥
unfolding constant
not_constant m a b =
    by_number m (λ o. constant o ≡ true → ⊥) (λ h e. never e) (λ h e. never e) (λ h e. never e) (λ h e. never e) (λ h e. never e) (λ h e. never e) (λ h e. never e) (λ h e. a h) (λ h e. b h) (λ e. never e)

module _ {k : ℕ} {f : Operand → Operator} (t : TestOperator k f) (m : ℕ) where
  tests : (o : Operand) → operand_of m ≡ o → testable 32 o ≡ true → Some (f o) ≡ unpacked k m
  tests o e h = decodes_known k m (f o) (t.unpacks m ∙ rw e) (t.fits o h)

  pub test_mx : m ≤ 255 → Some (f (Mx m)) ≡ unpacked k m
  unfolding testable
  test_mx h = tests (Mx m) (operand_mx m (omega arith)) (le-leb m 255 h)

  pub test_ix : 384 < m → m ≤ 448 → Some (f (Ix (m - 384))) ≡ unpacked k m
  unfolding testable
  test_ix g h = tests (Ix (m - 384)) (operand_ix m g (omega arith)) (in_range 1 64 (m - 384) (omega arith) (omega arith))

  pub test_q : 768 < m → m ≤ 800 → Some (f (TimerQ (m - 768))) ≡ unpacked k m
  unfolding testable
  test_q g h = tests (TimerQ (m - 768)) (operand_timer_q m g (omega arith)) (in_range 1 32 (m - 768) (omega arith) (omega arith))

  pub test_none : 255 < m → (384 < m → 448 < m) → (768 < m → 800 < m) → (k ≡ 1 → m ≡ 2000 → ⊥) → (k ≡ 1 → m ≡ 2001 → ⊥) → None ≡ unpacked k m
  test_none a b c d e = unknown k m (f (operand_of m)) (t.unpacks m) λ h. elim (t.only (operand_of m) h) [
    | inl g ↦ untested m a b c g
    | inr g ↦ not_constant m (d g.0) (e g.0) g.1
  ]

pub ld_false : Some (Ld False) ≡ unpacked 1 2000
unfolding unpacked operand_of kept operator_fits testable constant
ld_false = refl

pub ld_true : Some (Ld True) ≡ unpacked 1 2001
unfolding unpacked operand_of kept operator_fits testable constant
ld_true = refl

-- ---- ST

unstored : (m : ℕ) → 255 < m → (512 < m → 576 < m) → (1024 < m → 1056 < m) → (1280 < m → 1312 < m) → operator_fits (St (operand_of m)) ≡ true → ⊥
unfolding operator_fits flip_flop_fits output_fits parameter_fits
unstored m a b c d =
    by_number m (λ o. operator_fits (St o) ≡ true → ⊥) (λ h e. omega (arith, leb-true m 255 (simp or-false at e))) (λ h e. never e) (λ h e. omega (arith, b h, (within 1 64 (m - 512) (simp or-false at e)).1)) (λ h e. never e)
    (λ h e. omega (arith, c h, (within 1 32 (m - 1024) e).1)) (λ h e. omega (arith, d h, (within 1 32 (m - 1280) e).1)) (λ h e. never e) (λ h e. never e) (λ h e. never e) (λ e. never e)

module _ (m : ℕ) where
  st_is : unpacked 7 m ≡ kept (St (operand_of m))
  unfolding unpacked
  st_is = refl

  stores : (o : Operand) → operand_of m ≡ o → operator_fits (St o) ≡ true → Some (St o) ≡ unpacked 7 m
  stores o e h = decodes_known 7 m (St o) (st_is ∙ rw e) h

  pub st_mx : m ≤ 255 → Some (St (Mx m)) ≡ unpacked 7 m
  unfolding operator_fits flip_flop_fits
  st_mx h = stores (Mx m) (operand_mx m (omega arith)) (rw (le-leb m 255 h))

  pub st_qx : 512 < m → m ≤ 576 → Some (St (Qx (m - 512))) ≡ unpacked 7 m
  unfolding operator_fits flip_flop_fits output_fits
  st_qx g h = stores (Qx (m - 512)) (operand_qx m g (omega arith)) (rw (in_range 1 64 (m - 512) (omega arith) (omega arith)))

  pub st_in : 1024 < m → m ≤ 1056 → Some (St (TimerIn (m - 1024))) ≡ unpacked 7 m
  unfolding operator_fits flip_flop_fits output_fits parameter_fits
  st_in g h = stores (TimerIn (m - 1024)) (operand_timer_in m g (omega arith)) (rw (in_range 1 32 (m - 1024) (omega arith) (omega arith)))

  pub st_pt : 1280 < m → m ≤ 1312 → Some (St (TimerPt (m - 1280))) ≡ unpacked 7 m
  unfolding operator_fits flip_flop_fits output_fits parameter_fits
  st_pt g h = stores (TimerPt (m - 1280)) (operand_timer_pt m g (omega arith)) (rw (in_range 1 32 (m - 1280) (omega arith) (omega arith)))

  pub st_none : 255 < m → (512 < m → 576 < m) → (1024 < m → 1056 < m) → (1280 < m → 1312 < m) → None ≡ unpacked 7 m
  st_none a b c d = unknown 7 m (St (operand_of m)) st_is (unstored m a b c d)

-- ---- S and R

flip_flop_in : (m : ℕ) → flip_flop_fits (operand_of m) ≡ true → m ≤ 255
unfolding flip_flop_fits
flip_flop_in m =
    by_number m (λ o. flip_flop_fits o ≡ true → m ≤ 255) (λ h e. leb-true m 255 e) (λ h e. never e) (λ h e. never e)
    (λ h e. never e) (λ h e. never e) (λ h e. never e) (λ h e. never e) (λ h e. never e) (λ h e. never e) (λ e. never e)

-- operator k is S or R
pub record Acts (k : ℕ) (f : Operand → Operator) : Type 0 where
  pub unpacks : Unpacks k f
  pub fits : (o : Operand) → operator_fits (f o) ≡ flip_flop_fits o

pub s : Acts 8 S
unfolding unpacked operator_fits
s = record { unpacks = λ m. refl; fits = λ o. refl }

pub r : Acts 9 R
unfolding unpacked operator_fits
r = record { unpacks = λ m. refl; fits = λ o. refl }

module _ {k : ℕ} {f : Operand → Operator} (t : Acts k f) (m : ℕ) where
  pub act_mx : m ≤ 255 → Some (f (Mx m)) ≡ unpacked k m
  unfolding flip_flop_fits
  act_mx h = decodes_known k m (f (Mx m)) (t.unpacks m ∙ rw (operand_mx m (omega arith))) (t.fits (Mx m) ∙ le-leb m 255 h)

  pub act_none : 255 < m → None ≡ unpacked k m
  act_none h = unknown k m (f (operand_of m)) (t.unpacks m) λ e. omega (arith, h, flip_flop_in m (sym (t.fits (operand_of m)) ∙ e))

-- ---- CAL and LD of a time

not_called : (m : ℕ) → (1536 < m → 1568 < m) → block_fits (operand_of m) ≡ true → ⊥
unfolding block_fits
not_called m a =
    by_number m (λ o. block_fits o ≡ true → ⊥) (λ h e. never e) (λ h e. never e) (λ h e. never e) (λ h e. never e) (λ h e. never e) (λ h e. never e) (λ h e. omega (arith, a h, (within 1 32 (m - 1536) e).1)) (λ h e. never e) (λ h e. never e) (λ e. never e)

module _ (m : ℕ) where
  cal_is : unpacked 10 m ≡ kept (Cal (operand_of m))
  unfolding unpacked
  cal_is = refl

  pub cal_timer : 1536 < m → m ≤ 1568 → Some (Cal (Timer (m - 1536))) ≡ unpacked 10 m
  unfolding operator_fits block_fits
  cal_timer g h = decodes_known 10 m (Cal (Timer (m - 1536))) (cal_is ∙ rw (operand_timer m g (omega arith))) (in_range 1 32 (m - 1536) (omega arith) (omega arith))

  pub cal_none : (1536 < m → 1568 < m) → None ≡ unpacked 10 m
  unfolding operator_fits
  cal_none h = unknown 10 m (Cal (operand_of m)) cal_is (not_called m h)

  pub time_known : 1 ≤ m → m ≤ 86400000 → Some (LdTime m) ≡ unpacked 11 m
  unfolding unpacked operator_fits
  time_known g h = decodes_known 11 m (LdTime m) refl (in_range 1 86400000 m g h)

  pub time_none : (0 < m → 86400000 < m) → None ≡ unpacked 11 m
  unfolding unpacked operator_fits
  time_none h = unknown 11 m (LdTime m) refl λ e. (let g = within 1 86400000 m e in omega (arith, h g.0, g.1))

-- ---- by operator and range, as the decoder's arms are

module _ (m : ℕ) where
  pub ld_mx : m ≤ 255 → Some (Ld (Mx m)) ≡ unpacked 1 m
  ld_mx = test_mx ld m

  pub ld_ix : 384 < m → m ≤ 448 → Some (Ld (Ix (m - 384))) ≡ unpacked 1 m
  ld_ix = test_ix ld m

  pub ld_q : 768 < m → m ≤ 800 → Some (Ld (TimerQ (m - 768))) ≡ unpacked 1 m
  ld_q = test_q ld m

  pub ld_none : 255 < m → (384 < m → 448 < m) → (768 < m → 800 < m) → (m ≡ 2000 → ⊥) → (m ≡ 2001 → ⊥) → None ≡ unpacked 1 m
  ld_none a b c d e = test_none ld m a b c (λ p. d) (λ p. e)

  pub ldn_mx : m ≤ 255 → Some (Ldn (Mx m)) ≡ unpacked 2 m
  ldn_mx = test_mx ldn m

  pub ldn_ix : 384 < m → m ≤ 448 → Some (Ldn (Ix (m - 384))) ≡ unpacked 2 m
  ldn_ix = test_ix ldn m

  pub ldn_q : 768 < m → m ≤ 800 → Some (Ldn (TimerQ (m - 768))) ≡ unpacked 2 m
  ldn_q = test_q ldn m

  pub ldn_none : 255 < m → (384 < m → 448 < m) → (768 < m → 800 < m) → None ≡ unpacked 2 m
  ldn_none a b c = test_none ldn m a b c (λ e g. omega (arith, e)) (λ e g. omega (arith, e))

  pub and_mx : m ≤ 255 → Some (And (Mx m)) ≡ unpacked 3 m
  and_mx = test_mx and m

  pub and_ix : 384 < m → m ≤ 448 → Some (And (Ix (m - 384))) ≡ unpacked 3 m
  and_ix = test_ix and m

  pub and_q : 768 < m → m ≤ 800 → Some (And (TimerQ (m - 768))) ≡ unpacked 3 m
  and_q = test_q and m

  pub and_none : 255 < m → (384 < m → 448 < m) → (768 < m → 800 < m) → None ≡ unpacked 3 m
  and_none a b c = test_none and m a b c (λ e g. omega (arith, e)) (λ e g. omega (arith, e))

  pub andn_mx : m ≤ 255 → Some (Andn (Mx m)) ≡ unpacked 4 m
  andn_mx = test_mx andn m

  pub andn_ix : 384 < m → m ≤ 448 → Some (Andn (Ix (m - 384))) ≡ unpacked 4 m
  andn_ix = test_ix andn m

  pub andn_q : 768 < m → m ≤ 800 → Some (Andn (TimerQ (m - 768))) ≡ unpacked 4 m
  andn_q = test_q andn m

  pub andn_none : 255 < m → (384 < m → 448 < m) → (768 < m → 800 < m) → None ≡ unpacked 4 m
  andn_none a b c = test_none andn m a b c (λ e g. omega (arith, e)) (λ e g. omega (arith, e))

  pub s_mx : m ≤ 255 → Some (S (Mx m)) ≡ unpacked 8 m
  s_mx = act_mx s m

  pub s_none : 255 < m → None ≡ unpacked 8 m
  s_none = act_none s m

  pub r_mx : m ≤ 255 → Some (R (Mx m)) ≡ unpacked 9 m
  r_mx = act_mx r m

  pub r_none : 255 < m → None ≡ unpacked 9 m
  r_none = act_none r m

-- what each operator makes of its operands
pub ruleset by_operator = (ld_mx, ld_ix, ld_q, ld_none, ldn_mx, ldn_ix, ldn_q, ldn_none, and_mx, and_ix, and_q, and_none, andn_mx, andn_ix, andn_q, andn_none, s_mx, s_none, r_mx, r_none, ld_false, ld_true, st_mx, st_qx, st_in, st_pt, st_none, cal_timer, cal_none, time_known, time_none)
