-- A line's bytes say which line it is.
use Rattle.std.specs.Prelude.{◌≡◌, refl, ◌⊎◌, ℕ, zero, suc, ◌+◌, ◌/◌, ◌%◌, ◌^◌, ◌<◌, Bool, true, false, ◌&&◌, not, List, [], ◌∷◌, ◌++◌, get_or, ltb, eqb}
use Rattle.std.proofs.Common.{sym, ap, ap₂, ◌∙◌, inl, inr, arith, append-nil, ne_eqb, eqb-true, eq-eqb}
use Rattle.std.proofs.lemmas.Bool.{false≢true}
use Rattle.meaning.proofs.Laws.Rows.{which, and_l, and_r, and_both}
use Rattle.meaning.specs.Programs.{all}
use Rattle.meaning.specs.Tables.{most_timers, most_preset}
use Rattle.meaning.specs.Programs.{carried}
use Rattle.meaning.specs.declared.Operand.{Operand}
use Rattle.meaning.specs.declared.Operand.TheVariants.{Mx, Ix, Qx, TimerQ, TimerIn, TimerPt, Timer, False, True}
use Rattle.meaning.specs.declared.Operator.{Operator}
use Rattle.meaning.specs.declared.Operator.TheVariants.{Ld, Ldn, And, Andn, Or, Close, St, S, R, Cal, LdTime}
use Rattle.format.specs.declared.Line.{Line}
use Rattle.format.specs.declared.Line.TheVariants.{Header, Var, Block, EndVar, Says, EndProgram, Unknown}
use Rattle.format.specs.Words.{operand_number}
use Rattle.format.specs.Text.{bytes, digits, decimal, operand_text, operator_text}
use Rattle.format.specs.Records.{same}
use Rattle.format.specs.Decode.{operator_fits}
use Rattle.format.proofs.Laws.Decode.{operand_small, carried_fits, within}
use Rattle.format.specs.Automata.Lines.{line_text, line_fits, leading, timer_operand, operand_in, load_in, operator_in, line_in, said}
use Rattle.format.proofs.Laws.Decimals.{leading_decimal, leading_all, begins_digit}

-- no byte is LF
unfoldable pub one_line : List ℕ → Bool
one_line l = all (λ b. not (eqb b 10)) l

pub all_append : {A : Type 0} (f : A → Bool) (l m : List A) → all f l ≡ true → all f m ≡ true → all f (l ++ m) ≡ true
unfolding all
all_append f [] m p q = q
all_append f (x ∷ l) m p q = and_both _ _ (and_l (f x) _ p) (all_append f l m (and_r (f x) _ p) q)

digits_line : (k n : ℕ) → one_line (digits k n) ≡ true
unfolding one_line digits all
digits_line zero n = rw (ne_eqb (48 + n % 10) 10 (λ e. omega arith))
digits_line (suc k) n = elim (which (ltb n 10)) [
  | inl e ↦ rw (digits, e) (last n)
  | inr e ↦ rw (digits, e) (all_append (λ b. not (eqb b 10)) (digits k (n / 10)) ((48 + n % 10) ∷ []) (digits_line k (n / 10)) (last n))
]
  where
    last : (n : ℕ) → all (λ b. not (eqb b 10)) ((48 + n % 10) ∷ []) ≡ true
    last n = rw (ne_eqb (48 + n % 10) 10 (λ e. omega arith))

-- ---- operands and instructions

timer_in : (n : ℕ) (r : List ℕ) → n < 2 ^ 64 → operand_in (84 ∷ (decimal n ++ r)) ≡ timer_operand (leading n r)
unfolding operand_in
timer_in n r h = rw (operand_in, begins_digit n 77 r refl, begins_digit n 73 r refl, begins_digit n 81 r refl, begins_digit n 65 r refl, begins_digit n 82 r refl, leading_decimal n r h)

operand_in_lem : (o : Operand) → operand_number o < 134217728 → operand_in (operand_text o) ≡ o
unfolding operand_in operand_text timer_operand leading operand_number
operand_in_lem (Mx n) h = ap Mx (leading_all n (omega arith))
operand_in_lem (Ix n) h = ap Ix (leading_all n (omega arith))
operand_in_lem (Qx n) h = ap Qx (leading_all n (omega arith))
operand_in_lem (TimerQ n) h = timer_in n (bytes ".Q") (omega arith)
operand_in_lem (TimerIn n) h = timer_in n (bytes ".IN") (omega arith)
operand_in_lem (TimerPt n) h = timer_in n (bytes ".PT") (omega arith)
operand_in_lem (Timer n) h = ap (λ l. operand_in (84 ∷ l)) (sym (append-nil (decimal n))) ∙ timer_in n [] (omega arith)
operand_in_lem False h = refl
operand_in_lem True h = refl

-- no operand looks like a time
no_time : (o : Operand) → eqb (get_or (operand_text o) 1 0) 35 ≡ false
unfolding operand_text
no_time (Mx n) = refl
no_time (Ix n) = refl
no_time (Qx n) = refl
no_time (TimerQ n) = begins_digit n 35 (bytes ".Q") refl
no_time (TimerIn n) = begins_digit n 35 (bytes ".IN") refl
no_time (TimerPt n) = begins_digit n 35 (bytes ".PT") refl
no_time (Timer n) = ap (λ l. eqb (get_or l 0 0) 35) (sym (append-nil (decimal n))) ∙ begins_digit n 35 [] refl
no_time False = refl
no_time True = refl

carried_in_lem : (i : Operator) → operator_fits i ≡ true → operand_in (operand_text (carried i)) ≡ carried i
carried_in_lem i f = operand_in_lem (carried i) (operand_small (carried i) (carried_fits i f))

operator_in_lem : (i : Operator) → operator_fits i ≡ true → operator_in (operator_text i) ≡ i
unfolding operator_in operator_text load_in carried operator_fits leading
operator_in_lem (Ld o) f = rw (load_in, no_time o) (ap Ld (carried_in_lem (Ld o) f))
operator_in_lem (Ldn o) f = ap Ldn (carried_in_lem (Ldn o) f)
operator_in_lem (And o) f = ap And (carried_in_lem (And o) f)
operator_in_lem (Andn o) f = ap Andn (carried_in_lem (Andn o) f)
operator_in_lem Or f = refl
operator_in_lem Close f = refl
operator_in_lem (St o) f = ap St (carried_in_lem (St o) f)
operator_in_lem (S o) f = ap S (carried_in_lem (S o) f)
operator_in_lem (R o) f = ap R (carried_in_lem (R o) f)
operator_in_lem (Cal o) f = ap Cal (carried_in_lem (Cal o) f)
operator_in_lem (LdTime n) f = ap (λ s. LdTime s.number) (leading_decimal n (bytes "ms") (omega (arith, (within 1 most_preset n f).1)))

-- ---- lines

says_in : (i : Operator) → line_in (operator_text i) ≡ Says (operator_in (operator_text i))
unfolding line_in operator_text
says_in (Ld o) = refl
says_in (Ldn o) = refl
says_in (And o) = refl
says_in (Andn o) = refl
says_in Or = refl
says_in Close = refl
says_in (St o) = refl
says_in (S o) = refl
says_in (R o) = refl
says_in (Cal o) = refl
says_in (LdTime n) = refl

line_in_lem : (t : Line) → line_fits t ≡ true → line_in (line_text t) ≡ t
unfolding line_in line_text line_fits leading
line_in_lem Header f = refl
line_in_lem Var f = refl
line_in_lem (Block n) f = ap (λ s. Block s.number) (leading_decimal n (bytes " : TON;") (omega (arith, (within 1 most_timers n f).1)))
line_in_lem EndVar f = refl
line_in_lem (Says i) f = says_in i ∙ ap Says (operator_in_lem i f)
line_in_lem EndProgram f = refl
line_in_lem Unknown f = absurd (false≢true f)

pub same_refl : (l : List ℕ) → same l l ≡ true
unfolding same
same_refl [] = refl
same_refl (b ∷ l) = and_both _ _ (eq-eqb b b refl) (same_refl l)

pub same_yes : (l m : List ℕ) → same l m ≡ true → l ≡ m
unfolding same
same_yes [] [] e = refl
same_yes [] (d ∷ m) e = absurd (false≢true e)
same_yes (b ∷ l) [] e = absurd (false≢true e)
same_yes (b ∷ l) (d ∷ m) e = ap₂ ◌∷◌ (eqb-true b d (and_l (eqb b d) _ e)) (same_yes l m (and_r (eqb b d) _ e))

-- a line is said by its text, and by no other
pub said_line : (t : Line) → line_fits t ≡ true → said (line_text t) ≡ t
unfolding said
said_line t f = rw (line_in_lem t f, f, same_refl (line_text t))

pub line_said : (l : List ℕ) (t : Line) → said l ≡ t → line_fits t ≡ true → line_text t ≡ l
unfolding said line_fits
line_said l t e f = elim (which (line_fits (line_in l) && same (line_text (line_in l)) l)) [
  | inl p ↦ (let q : line_in l ≡ t = rw p at e in rw (← q) (same_yes _ l (and_r (line_fits (line_in l)) _ p)))
  | inr p ↦ (let q : Unknown ≡ t = rw p at e in absurd (false≢true (rw (← q) at f)))
]

pub said_fits : (l : List ℕ) → (said l ≡ Unknown) ⊎ (line_fits (said l) ≡ true)
unfolding said
said_fits l = elim (which (line_fits (line_in l) && same (line_text (line_in l)) l)) [
  | inl p ↦ inr (rw (said, p) (and_l (line_fits (line_in l)) _ p))
  | inr p ↦ inl (rw (said, p))
]

-- for a reader that goes about it in another way
pub said_is : (l : List ℕ) (t : Line) → line_fits t ≡ true → line_text t ≡ l → said l ≡ t
said_is l t f e = ap said (sym e) ∙ said_line t f

pub said_none : (l : List ℕ) → ((t : Line) → line_fits t ≡ true → line_text t ≡ l → ⊥) → said l ≡ Unknown
said_none l h = elim (said_fits l) [ inl u ↦ u | inr f ↦ absurd (h (said l) f (line_said l (said l) refl f)) ]

-- ---- no line has an LF in it

decimal_line : (n : ℕ) (r : List ℕ) → one_line r ≡ true → one_line (decimal n ++ r) ≡ true
unfolding one_line decimal
decimal_line n r e = all_append (λ b. not (eqb b 10)) (digits 19 n) r (digits_line 19 n) e

operand_line : (o : Operand) → one_line (operand_text o) ≡ true
unfolding operand_text one_line all decimal
operand_line (Mx n) = digits_line 19 n
operand_line (Ix n) = digits_line 19 n
operand_line (Qx n) = digits_line 19 n
operand_line (TimerQ n) = decimal_line n (bytes ".Q") refl
operand_line (TimerIn n) = decimal_line n (bytes ".IN") refl
operand_line (TimerPt n) = decimal_line n (bytes ".PT") refl
operand_line (Timer n) = digits_line 19 n
operand_line False = refl
operand_line True = refl

operator_line : (i : Operator) → one_line (operator_text i) ≡ true
unfolding operator_text one_line all
operator_line (Ld o) = operand_line o
operator_line (Ldn o) = operand_line o
operator_line (And o) = operand_line o
operator_line (Andn o) = operand_line o
operator_line Or = refl
operator_line Close = refl
operator_line (St o) = operand_line o
operator_line (S o) = operand_line o
operator_line (R o) = operand_line o
operator_line (Cal o) = operand_line o
operator_line (LdTime n) = decimal_line n (bytes "ms") refl

pub line_line : (t : Line) → one_line (line_text t) ≡ true
unfolding line_text one_line all
line_line Header = refl
line_line Var = refl
line_line (Block n) = decimal_line n (bytes " : TON;") refl
line_line EndVar = refl
line_line (Says i) = operator_line i
line_line EndProgram = refl
line_line Unknown = refl
