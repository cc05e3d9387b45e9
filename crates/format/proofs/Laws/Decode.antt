-- Words and instructions are one to one, and programs that fit have nothing but instructions.
use Rattle.format.specs.Decode.{Decoded}
use Rattle.std.specs.Prelude.{◌≡◌, refl, ℕ, ◌+◌, ◌-◌, ◌/◌, ◌%◌, ◌≤◌, ◌<◌, Bool, true, false, ◌||◌, cond, leb, eqb, Some, None}
use Rattle.std.proofs.Common.{sym, ap, ◌∙◌, inl, inr, arith, true≢false, leb-true, leb-false, eqb-true, le-leb}
use Rattle.std.proofs.Math.Bool.{or-false}
use Rattle.std.proofs.lemmas.Bool.{false≢true, lt-leb}
use Rattle.meaning.proofs.Laws.Rows.{which, and_l, and_r, and_both, or_l, or_r}
use Rattle.meaning.specs.Tables.{most_timers, most_inputs, most_outputs, most_preset}
use Rattle.meaning.specs.Literals.{between}
use Rattle.meaning.specs.Programs.{testable, constant, flip_flop_fits, output_fits, carried}
use Rattle.meaning.specs.declared.Operand.{Operand}
use Rattle.meaning.specs.declared.Operand.TheVariants.{Mx, Ix, Qx, TimerQ, TimerIn, TimerPt, Timer, False, True}
use Rattle.meaning.specs.declared.Operator.{Operator}
use Rattle.meaning.specs.declared.Operator.TheVariants.{Ld, Ldn, And, Andn, Or, Close, St, S, R, Cal, LdTime}
use Rattle.format.specs.Words.{operand_number, packed, word}
use Rattle.format.specs.Decode.{parameter_fits, block_fits, operator_fits, operand_of, kept, unpacked, decoded}

-- what holds of both answers of a test holds of the test
by_test : {A : Type 0} (P : A → Type 0) (b : Bool) (x y : A) → (b ≡ true → P x) → (b ≡ false → P y) → P (cond b x y)
by_test P true x y f g = f refl
by_test P false x y f g = g refl

-- ---- from the word

past : (m a : ℕ) → leb m a ≡ false → a + (m - a) ≡ m
past m a e = omega (arith, leb-false m a e)

-- the operand's number is m, or it is none that an instruction has
data Back (m : ℕ) (o : Operand) : Type 0 where
  back : operand_number o ≡ m → Back m o
  beyond : o ≡ Timer 0 → Back m o

operand_of_lem : (m : ℕ) → Back m (operand_of m)
unfolding operand_of operand_number
operand_of_lem m =
    by_test (Back m) _ _ _ (λ e. back refl) λ e₁.
    by_test (Back m) _ _ _ (λ e. back (past m 384 e₁)) λ e₂.
    by_test (Back m) _ _ _ (λ e. back (past m 512 e₂)) λ e₃.
    by_test (Back m) _ _ _ (λ e. back (past m 768 e₃)) λ e₄.
    by_test (Back m) _ _ _ (λ e. back (past m 1024 e₄)) λ e₅.
    by_test (Back m) _ _ _ (λ e. back (past m 1280 e₅)) λ e₆.
    by_test (Back m) (leb m 1999) (Timer (m - 1536)) (cond (eqb m 2000) False (cond (eqb m 2001) True (Timer 0))) (λ e. back (past m 1536 e₆)) λ e₇.
    by_test (Back m) (eqb m 2000) False (cond (eqb m 2001) True (Timer 0)) (λ e. back (sym (eqb-true m 2000 e))) λ e₈.
    by_test (Back m) (eqb m 2001) True (Timer 0) (λ e. back (sym (eqb-true m 2001 e))) λ e₉. beyond refl

-- the answer is an instruction, and its word is operator k with operand m
Right : ℕ → ℕ → Decoded → Type 0
Right k m x = (i : Operator) → x ≡ Some i → (operator_fits i ≡ true) × (word i ≡ packed k m)

right_unknown : (k m : ℕ) → Right k m None
unfolding Right
right_unknown k m i e = let z : ◌≡◌ {A = ℕ} 0 1 = cc in absurd (omega arith)

right_kept : (k m : ℕ) (j : Operator) → (operator_fits j ≡ true → word j ≡ packed k m) → Right k m (kept j)
unfolding Right kept
right_kept k m j h = by_test (Right k m) (operator_fits j) _ _ (λ e i p. (let q : j ≡ i = cc in (rw q at e, rw q at (h e)))) (λ e. right_unknown k m)

right_bare : (k m c : ℕ) (j : Operator) → operator_fits j ≡ true → word j ≡ packed c 0 → eqb k c ≡ true → Right k m (cond (eqb m 0) (Some j) None)
unfolding Right
right_bare k m c j a b e = by_test (Right k m) _ _ _ (λ z i p. (let q : j ≡ i = cc in (rw q at a, rw (← q, eqb-true k c e, eqb-true m 0 z) b))) (λ z. right_unknown k m)

right_with : (k m c : ℕ) (f : Operand → Operator) → ((o : Operand) → word (f o) ≡ packed c (operand_number o)) → operator_fits (f (Timer 0)) ≡ false → eqb k c ≡ true → Right k m (kept (f (operand_of m)))
right_with k m c f a b e = right_kept k m _ λ h. elim (operand_of_lem m) [
  | back p ↦ rw (a, p, eqb-true k c e)
  | beyond p ↦ absurd (true≢false (sym h ∙ rw p b))
]

unpacked_right : (k m : ℕ) → Right k m (unpacked k m)
unfolding unpacked word operator_fits testable constant flip_flop_fits output_fits parameter_fits block_fits
unpacked_right k m =
    by_test (Right k m) _ _ _ (right_with k m 1 Ld (λ o. refl) refl) λ _.
    by_test (Right k m) _ _ _ (right_with k m 2 Ldn (λ o. refl) refl) λ _.
    by_test (Right k m) _ _ _ (right_with k m 3 And (λ o. refl) refl) λ _.
    by_test (Right k m) _ _ _ (right_with k m 4 Andn (λ o. refl) refl) λ _.
    by_test (Right k m) _ _ _ (right_bare k m 5 Or refl refl) λ _.
    by_test (Right k m) _ _ _ (right_bare k m 6 Close refl refl) λ _.
    by_test (Right k m) _ _ _ (right_with k m 7 St (λ o. refl) refl) λ _.
    by_test (Right k m) _ _ _ (right_with k m 8 S (λ o. refl) refl) λ _.
    by_test (Right k m) _ _ _ (right_with k m 9 R (λ o. refl) refl) λ _.
    by_test (Right k m) _ _ _ (right_with k m 10 Cal (λ o. refl) refl) λ _.
    by_test (Right k m) _ _ _ (λ e. right_kept k m (LdTime m) (λ h. rw (eqb-true k 11 e))) λ _. right_unknown k m

pub word_decode : (n : ℕ) (i : Operator) → decoded n ≡ Some i → (operator_fits i ≡ true) × (word i ≡ n)
unfolding decoded Right
word_decode n i e = let r = unpacked_right (n / 134217728) (n % 134217728) i e in (r.0, r.1 ∙ omega arith)

-- ---- from the instruction

pub within : (a b n : ℕ) → between a b n ≡ true → (a ≤ n) × (n ≤ b)
within a b n e = (leb-true a n (and_l (leb a n) (leb n b) e), leb-true n b (and_r (leb a n) (leb n b) e))

pub in_range : (a b n : ℕ) → a ≤ n → n ≤ b → between a b n ≡ true
in_range a b n h k = and_both _ _ (le-leb a n h) (le-leb n b k)

low : (n : ℕ) → ((leb n 255 || false) || (leb n 255 || false || false) || false) ≡ true → leb n 255 ≡ true
low n e = elim (which (leb n 255)) [ inl f ↦ f | inr f ↦ absurd (false≢true (rw f at e)) ]

-- some instruction has it
pub operand_fits : Operand → Bool
operand_fits o = (testable most_timers o || constant o) || (flip_flop_fits o || output_fits o || parameter_fits o) || block_fits o

operand_back : (o : Operand) → operand_fits o ≡ true → operand_of (operand_number o) ≡ o
unfolding operand_fits operand_of operand_number testable constant flip_flop_fits output_fits parameter_fits block_fits
operand_back (Mx n) e = let h = leb-true n 255 (low n e) in rw (operand_of, le-leb n 384 (omega arith))
operand_back (Ix n) e = let h = within 1 most_inputs n (simp or-false at e) in rw (operand_of, lt-leb (384 + n) 384 (omega arith), le-leb (384 + n) 512 (omega arith)) (ap Ix (omega arith))
operand_back (Qx n) e =
    let h = within 1 most_outputs n (simp or-false at e) in
    rw (operand_of, lt-leb (512 + n) 384 (omega arith), lt-leb (512 + n) 512 (omega arith), le-leb (512 + n) 768 (omega arith)) (ap Qx (omega arith))
operand_back (TimerQ n) e =
    let h = within 1 most_timers n (simp or-false at e) in
    rw (operand_of, lt-leb (768 + n) 384 (omega arith), lt-leb (768 + n) 512 (omega arith), lt-leb (768 + n) 768 (omega arith), le-leb (768 + n) 1024 (omega arith)) (ap TimerQ (omega arith))
operand_back (TimerIn n) e =
    let h = within 1 most_timers n (simp or-false at e) in
    rw (operand_of, lt-leb (1024 + n) 384 (omega arith), lt-leb (1024 + n) 512 (omega arith), lt-leb (1024 + n) 768 (omega arith), lt-leb (1024 + n) 1024 (omega arith), le-leb (1024 + n) 1280 (omega arith)) (ap TimerIn (omega arith))
operand_back (TimerPt n) e =
    let h = within 1 most_timers n (simp or-false at e) in
    rw (operand_of, lt-leb (1280 + n) 384 (omega arith), lt-leb (1280 + n) 512 (omega arith), lt-leb (1280 + n) 768 (omega arith), lt-leb (1280 + n) 1024 (omega arith), lt-leb (1280 + n) 1280 (omega arith), le-leb (1280 + n) 1536 (omega arith))
    (ap TimerPt (omega arith))
operand_back (Timer n) e =
    let h = within 1 most_timers n e in
    rw (operand_of, lt-leb (1536 + n) 384 (omega arith), lt-leb (1536 + n) 512 (omega arith), lt-leb (1536 + n) 768 (omega arith), lt-leb (1536 + n) 1024 (omega arith), lt-leb (1536 + n) 1280 (omega arith), lt-leb (1536 + n) 1536 (omega arith), le-leb (1536 + n) 1999 (omega arith))
    (ap Timer (omega arith))
operand_back False e = refl
operand_back True e = refl

pub operand_small : (o : Operand) → operand_fits o ≡ true → operand_number o < 134217728
unfolding operand_fits operand_number testable constant flip_flop_fits output_fits parameter_fits block_fits
operand_small (Mx n) e = omega (arith, leb-true n 255 (low n e))
operand_small (Ix n) e = omega (arith, (within 1 most_inputs n (simp or-false at e)).1)
operand_small (Qx n) e = omega (arith, (within 1 most_outputs n (simp or-false at e)).1)
operand_small (TimerQ n) e = omega (arith, (within 1 most_timers n (simp or-false at e)).1)
operand_small (TimerIn n) e = omega (arith, (within 1 most_timers n (simp or-false at e)).1)
operand_small (TimerPt n) e = omega (arith, (within 1 most_timers n (simp or-false at e)).1)
operand_small (Timer n) e = omega (arith, (within 1 most_timers n e).1)
operand_small False e = omega arith
operand_small True e = omega arith

-- a word is taken apart into its two numbers
unpack : (k m : ℕ) → m < 134217728 → decoded (packed k m) ≡ unpacked k m
unfolding decoded
unpack k m h = let e : packed k m / 134217728 ≡ k = omega arith in let f : packed k m % 134217728 ≡ m = omega arith in rw (e, f)

kept_known : (i : Operator) → operator_fits i ≡ true → kept i ≡ Some i
unfolding kept
kept_known i e = rw e

-- an operator with an operand
decode_with : (k : ℕ) (f : Operand → Operator) (o : Operand) → operand_fits o ≡ true → operator_fits (f o) ≡ true
    → unpacked k (operand_number o) ≡ kept (f (operand_of (operand_number o))) → decoded (packed k (operand_number o)) ≡ Some (f o)
decode_with k f o a b e = unpack k (operand_number o) (operand_small o a) ∙ e ∙ rw (operand_back o a) (kept_known (f o) b)

-- what an instruction carries is such an operand
pub carried_fits : (i : Operator) → operator_fits i ≡ true → operand_fits (carried i) ≡ true
unfolding operator_fits operand_fits carried testable constant
carried_fits (Ld o) e = or_l _ _ (or_l _ _ e)
carried_fits (Ldn o) e = or_l _ _ (or_l _ _ (or_l _ _ e))
carried_fits (And o) e = or_l _ _ (or_l _ _ (or_l _ _ e))
carried_fits (Andn o) e = or_l _ _ (or_l _ _ (or_l _ _ e))
carried_fits Or e = refl
carried_fits Close e = refl
carried_fits (St o) e = or_l _ _ (or_r (testable most_timers o || constant o) _ e)
carried_fits (S o) e = or_l _ _ (or_r (testable most_timers o || constant o) _ (or_l _ _ (or_l _ _ e)))
carried_fits (R o) e = or_l _ _ (or_r (testable most_timers o || constant o) _ (or_l _ _ (or_l _ _ e)))
carried_fits (Cal o) e = or_r ((testable most_timers o || constant o) || (flip_flop_fits o || output_fits o || parameter_fits o)) _ e
carried_fits (LdTime n) e = refl

pub decode_word : (i : Operator) → operator_fits i ≡ true → decoded (word i) ≡ Some i
unfolding word unpacked operator_fits carried
decode_word (Ld o) e = decode_with 1 Ld o (carried_fits (Ld o) e) e refl
decode_word (Ldn o) e = decode_with 2 Ldn o (carried_fits (Ldn o) e) e refl
decode_word (And o) e = decode_with 3 And o (carried_fits (And o) e) e refl
decode_word (Andn o) e = decode_with 4 Andn o (carried_fits (Andn o) e) e refl
decode_word Or e = unpack 5 0 (omega arith)
decode_word Close e = unpack 6 0 (omega arith)
decode_word (St o) e = decode_with 7 St o (carried_fits (St o) e) e refl
decode_word (S o) e = decode_with 8 S o (carried_fits (S o) e) e refl
decode_word (R o) e = decode_with 9 R o (carried_fits (R o) e) e refl
decode_word (Cal o) e = decode_with 10 Cal o (carried_fits (Cal o) e) e refl
decode_word (LdTime n) e = unpack 11 n (omega (arith, (within 1 most_preset n e).1)) ∙ kept_known (LdTime n) e

pub word_same : (i j : Operator) → operator_fits i ≡ true → operator_fits j ≡ true → word i ≡ word j → i ≡ j
word_same i j a b e = let h : Some i ≡ Some j = sym (decode_word i a) ∙ ap decoded e ∙ decode_word j b in cc

-- an instruction's word has 32 bits
pub word_small : (i : Operator) → operator_fits i ≡ true → word i < 4294967296
unfolding word carried operator_fits
word_small (Ld o) f = omega (arith, operand_small o (carried_fits (Ld o) f))
word_small (Ldn o) f = omega (arith, operand_small o (carried_fits (Ldn o) f))
word_small (And o) f = omega (arith, operand_small o (carried_fits (And o) f))
word_small (Andn o) f = omega (arith, operand_small o (carried_fits (Andn o) f))
word_small Or f = omega arith
word_small Close f = omega arith
word_small (St o) f = omega (arith, operand_small o (carried_fits (St o) f))
word_small (S o) f = omega (arith, operand_small o (carried_fits (S o) f))
word_small (R o) f = omega (arith, operand_small o (carried_fits (R o) f))
word_small (Cal o) f = omega (arith, operand_small o (carried_fits (Cal o) f))
word_small (LdTime n) f = omega (arith, (within 1 most_preset n f).1)
