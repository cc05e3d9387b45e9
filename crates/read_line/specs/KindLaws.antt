-- The forms of a line, one by one: which line a form is, and why there is none where the forms that begin alike are not met.
use Rattle.std.specs.Prelude.{◌≡◌, ◌≢◌, ℕ, ◌≤◌, Bool, false, ◌||◌, List, [], ◌∷◌, ◌++◌, length, leb, Some, None}
use Rattle.std.proofs.Math.Path.{refl}
use Rattle.std.proofs.Common.{sym, ap, ◌∙◌, append-nil, append_assoc}
use Rattle.std.proofs.Math.Logic.{inl, inr}
use native.Mathlib.Omega.{arith}
use Rattle.std.proofs.Math.Bool.{true, false≢true, or-false}
use Rattle.std.proofs.Math.ListN.{get_or}
use borrow.Author.Tests.{le-leb, leb-true}
use Rattle.meaning.proofs.Laws.Rows.{or_cases, or_l}
use Rattle.meaning.specs.Programs.{testable, constant, flip_flop_fits, output_fits}
use Rattle.meaning.specs.declared.Operand.{Operand}
use Rattle.meaning.specs.declared.Operand.TheVariants.{Mx, Ix, Qx, TimerQ, TimerIn, TimerPt, Timer, False, True}
use Rattle.meaning.specs.declared.Operator.{Operator}
use Rattle.meaning.specs.declared.Operator.TheVariants.{Ld, Ldn, And, Andn, Or, Close, St, S, R, Cal, LdTime}
use Rattle.format.specs.declared.Line.{Line}
use Rattle.format.specs.declared.Line.TheVariants.{Header, Var, Block, EndVar, Says, EndProgram, Unknown}
use Rattle.format.specs.Text.{bytes, decimal, operand_text, operator_text}
use Rattle.format.specs.Decode.{parameter_fits, block_fits, operator_fits}
use Rattle.format.proofs.Laws.Decode.{within, in_range}
use Rattle.format.specs.Automata.Lines.{leading, timer_operand, operand_in, operator_in, line_in, line_text, line_fits, said}
use Rattle.format.proofs.Laws.Lines.{said_is, said_none}
use Rattle.read_decimals.specs.Forms.{SameWord, Spells}
use Rattle.read_operands.specs.Names.{Names}
use Rattle.read_line.specs.Forms.{Stores, Puts, Others, operator_byte, line_byte}

-- ---- what ends a rung

found : (l : List ℕ) (t : Line) → line_fits t ≡ true → line_text t ≡ l → t ≡ said l
found l t f e = sym (said_is l t f e)

module _ {l : List ℕ} {n : ℕ} where
  pub store_mx : Spells (bytes "ST %MX") [] 0 255 l (Some n) → Says (St (Mx n)) ≡ said l
  unfolding line_fits line_text operator_fits flip_flop_fits operator_text operand_text
  store_mx s = found l (Says (St (Mx n))) (rw (le-leb n 255 s.1)) (ap (λ x. bytes "ST %MX" ++ x) (sym (append-nil (decimal n))) ∙ s.2)

  pub store_qx : Spells (bytes "ST %QX") [] 1 64 l (Some n) → Says (St (Qx n)) ≡ said l
  unfolding line_fits line_text operator_fits flip_flop_fits output_fits operator_text operand_text
  store_qx s = found l (Says (St (Qx n))) (rw (le-leb 1 n s.0, le-leb n 64 s.1)) (ap (λ x. bytes "ST %QX" ++ x) (sym (append-nil (decimal n))) ∙ s.2)

  pub store_in : Spells (bytes "ST T") (bytes ".IN") 1 32 l (Some n) → Says (St (TimerIn n)) ≡ said l
  unfolding line_fits line_text operator_fits flip_flop_fits output_fits parameter_fits operator_text operand_text
  store_in s = found l (Says (St (TimerIn n))) (in_range 1 32 n s.0 s.1) s.2

  pub store_pt : Spells (bytes "ST T") (bytes ".PT") 1 32 l (Some n) → Says (St (TimerPt n)) ≡ said l
  unfolding line_fits line_text operator_fits flip_flop_fits output_fits parameter_fits operator_text operand_text
  store_pt s = found l (Says (St (TimerPt n))) (in_range 1 32 n s.0 s.1) s.2

  pub store_s : Spells (bytes "S %MX") [] 0 255 l (Some n) → Says (S (Mx n)) ≡ said l
  unfolding line_fits line_text operator_fits flip_flop_fits operator_text operand_text
  store_s s = found l (Says (S (Mx n))) (le-leb n 255 s.1) (ap (λ x. bytes "S %MX" ++ x) (sym (append-nil (decimal n))) ∙ s.2)

  pub store_r : Spells (bytes "R %MX") [] 0 255 l (Some n) → Says (R (Mx n)) ≡ said l
  unfolding line_fits line_text operator_fits flip_flop_fits operator_text operand_text
  store_r s = found l (Says (R (Mx n))) (le-leb n 255 s.1) (ap (λ x. bytes "R %MX" ++ x) (sym (append-nil (decimal n))) ∙ s.2)

  pub store_call : Spells (bytes "CAL T") [] 1 32 l (Some n) → Says (Cal (Timer n)) ≡ said l
  unfolding line_fits line_text operator_fits block_fits operator_text operand_text
  store_call s = found l (Says (Cal (Timer n))) (in_range 1 32 n s.0 s.1) (ap (λ x. bytes "CAL T" ++ x) (sym (append-nil (decimal n))) ∙ s.2)

  pub load_time : Spells (bytes "LD T#") (bytes "ms") 1 86400000 l (Some n) → Says (LdTime n) ≡ said l
  unfolding line_fits line_text operator_fits operator_text
  load_time s = found l (Says (LdTime n)) (in_range 1 86400000 n s.0 s.1) s.2

  pub line_block : Spells (bytes "T") (bytes " : TON;") 1 32 l (Some n) → Block n ≡ said l
  unfolding line_fits line_text
  line_block s = found l (Block n) (in_range 1 32 n s.0 s.1) s.2

module _ {l : List ℕ} {o : Operand} where
  pub test_ldn : Names (bytes "LDN ") (testable 32) l (Some o) → Says (Ldn o) ≡ said l
  unfolding line_fits line_text operator_fits operator_text
  test_ldn s = found l (Says (Ldn o)) s.0 s.1

  pub test_and : Names (bytes "AND ") (testable 32) l (Some o) → Says (And o) ≡ said l
  unfolding line_fits line_text operator_fits operator_text
  test_and s = found l (Says (And o)) s.0 s.1

  pub test_andn : Names (bytes "ANDN ") (testable 32) l (Some o) → Says (Andn o) ≡ said l
  unfolding line_fits line_text operator_fits operator_text
  test_andn s = found l (Says (Andn o)) s.0 s.1

  pub load_test : Names (bytes "LD ") (testable 32) l (Some o) → Says (Ld o) ≡ said l
  unfolding line_fits line_text operator_fits operator_text
  load_test s = found l (Says (Ld o)) (or_l (testable 32 o) (constant o) s.0) s.1

module _ {l : List ℕ} where
  pub load_or : bytes "OR(" ≡ l → Says Or ≡ said l
  unfolding line_fits line_text operator_fits operator_text
  load_or e = found l (Says Or) refl e

  pub load_close : bytes ")" ≡ l → Says Close ≡ said l
  unfolding line_fits line_text operator_fits operator_text
  load_close e = found l (Says Close) refl e

  pub load_false : bytes "LD FALSE" ≡ l → Says (Ld False) ≡ said l
  unfolding line_fits line_text operator_fits testable constant operator_text operand_text
  load_false e = found l (Says (Ld False)) refl e

  pub load_true : bytes "LD TRUE" ≡ l → Says (Ld True) ≡ said l
  unfolding line_fits line_text operator_fits testable constant operator_text operand_text
  load_true e = found l (Says (Ld True)) refl e

  pub line_header : bytes "PROGRAM CHART" ≡ l → Header ≡ said l
  unfolding line_fits line_text
  line_header e = found l Header refl e

  pub line_var : bytes "VAR" ≡ l → Var ≡ said l
  unfolding line_fits line_text
  line_var e = found l Var refl e

  pub line_end_var : bytes "END_VAR" ≡ l → EndVar ≡ said l
  unfolding line_fits line_text
  line_end_var e = found l EndVar refl e

  pub line_end : bytes "END_PROGRAM" ≡ l → EndProgram ≡ said l
  unfolding line_fits line_text
  line_end e = found l EndProgram refl e

-- ---- where no line is met

pub differs : {w l : List ℕ} {r : Bool} → SameWord r w l → r ≡ false → w ≡ l → ⊥
differs s e f = false≢true (sym e ∙ s.1 f)

or_right : (b : Bool) → (b || false) ≡ true → b ≡ true
or_right b e = sym (or-false b) ∙ e

-- a line begins with its byte
byte_begins : (t : Line) → get_or (line_text t) 0 0 ≡ line_byte t
unfolding line_byte operator_byte line_text operator_text
byte_begins Header = refl
byte_begins Var = refl
byte_begins (Block n) = refl
byte_begins EndVar = refl
byte_begins (Says (Ld o)) = refl
byte_begins (Says (Ldn o)) = refl
byte_begins (Says (And o)) = refl
byte_begins (Says (Andn o)) = refl
byte_begins (Says Or) = refl
byte_begins (Says Close) = refl
byte_begins (Says (St o)) = refl
byte_begins (Says (S o)) = refl
byte_begins (Says (R o)) = refl
byte_begins (Says (Cal o)) = refl
byte_begins (Says (LdTime n)) = refl
byte_begins EndProgram = refl
byte_begins Unknown = refl

-- only lines that begin with the byte that l begins with need be tried
none_begins : {l : List ℕ} → ((t : Line) → line_byte t ≡ get_or l 0 0 → line_fits t ≡ true → line_text t ≡ l → ⊥) → Unknown ≡ said l
none_begins {l} h = sym (said_none l (λ t f e. h t (sym (byte_begins t) ∙ ap (λ x. get_or x 0 0) e) f e))

-- where l begins with A, L, R or S, only instructions
module _ {l : List ℕ} (p : 65 ≤ get_or l 0 0) (q : get_or l 0 0 ≤ 83) (e₁ : get_or l 0 0 ≢ 69) (e₂ : get_or l 0 0 ≢ 80)
    (says : (i : Operator) → operator_byte i ≡ get_or l 0 0 → operator_fits i ≡ true → operator_text i ≡ l → ⊥) where
  none_says : Unknown ≡ said l
  unfolding line_byte line_fits line_text
  none_says = none_begins tried
    where
      tried : (t : Line) → line_byte t ≡ get_or l 0 0 → line_fits t ≡ true → line_text t ≡ l → ⊥
      tried Header h f e = e₂ (sym h)
      tried Var h f e = omega arith
      tried (Block n) h f e = omega arith
      tried EndVar h f e = e₁ (sym h)
      tried (Says i) h f e = says i h f e
      tried EndProgram h f e = e₁ (sym h)
      tried Unknown h f e = false≢true f

-- ---- LD and LDN

module _ {l : List ℕ} (b : get_or l 0 0 ≡ 76) (ldn : Names (bytes "LDN ") (testable 32) l None) (test : Names (bytes "LD ") (testable 32) l None) (no : bytes "LD FALSE" ≡ l → ⊥) (sure : bytes "LD TRUE" ≡ l → ⊥) (time : Spells (bytes "LD T#") (bytes "ms") 1 86400000 l None) where
  no_constant : (o : Operand) → constant o ≡ true → bytes "LD " ++ operand_text o ≡ l → ⊥
  unfolding constant operand_text
  no_constant (Mx n) f e = false≢true f
  no_constant (Ix n) f e = false≢true f
  no_constant (Qx n) f e = false≢true f
  no_constant (TimerQ n) f e = false≢true f
  no_constant (TimerIn n) f e = false≢true f
  no_constant (TimerPt n) f e = false≢true f
  no_constant (Timer n) f e = false≢true f
  no_constant False f e = no e
  no_constant True f e = sure e

  pub no_load : Unknown ≡ said l
  unfolding operator_byte operator_fits operator_text
  no_load = none_says (omega arith) (omega arith) (λ e. omega arith) (λ e. omega arith) tried
    where
      tried : (i : Operator) → operator_byte i ≡ get_or l 0 0 → operator_fits i ≡ true → operator_text i ≡ l → ⊥
      tried (Ld o) h f e = elim (or_cases (testable 32 o) (constant o) f) [ inl t ↦ test o t e | inr t ↦ no_constant o t e ]
      tried (Ldn o) h f e = ldn o f e
      tried (And o) h f e = omega arith
      tried (Andn o) h f e = omega arith
      tried Or h f e = omega arith
      tried Close h f e = omega arith
      tried (St o) h f e = omega arith
      tried (S o) h f e = omega arith
      tried (R o) h f e = omega arith
      tried (Cal o) h f e = omega arith
      tried (LdTime n) h f e = time n (within 1 86400000 n f).0 (within 1 86400000 n f).1 e

-- the third byte tells LD from LDN
module _ {l : List ℕ} (b : get_or l 0 0 ≡ 76) where
  pub no_ldn : get_or l 2 0 ≡ 78 → Names (bytes "LDN ") (testable 32) l None → Unknown ≡ said l
  no_ldn k s = no_load b s (λ o f e. omega (arith, ap (λ x. get_or x 2 0) e)) (λ e. omega (arith, ap (λ x. get_or x 2 0) e)) (λ e. omega (arith, ap (λ x. get_or x 2 0) e)) (λ n p q e. omega (arith, ap (λ x. get_or x 2 0) e))

  pub no_ld : get_or l 2 0 ≢ 78 → Names (bytes "LD ") (testable 32) l None → (bytes "LD FALSE" ≡ l → ⊥) → (bytes "LD TRUE" ≡ l → ⊥) → Spells (bytes "LD T#") (bytes "ms") 1 86400000 l None → Unknown ≡ said l
  no_ld k = no_load b (λ o f e. k (sym (ap (λ x. get_or x 2 0) e)))

pub short_ld : (l : List ℕ) → get_or l 0 0 ≡ 76 → length l ≤ 2 → Unknown ≡ said l
short_ld l b k = no_load b (λ o f e. omega (arith, ap length e)) (λ o f e. omega (arith, ap length e)) (λ e. omega (arith, ap length e)) (λ e. omega (arith, ap length e)) (λ n p q e. omega (arith, ap length e))

-- ---- AND and ANDN

module _ {l : List ℕ} (b : get_or l 0 0 ≡ 65) (and : Names (bytes "AND ") (testable 32) l None) (andn : Names (bytes "ANDN ") (testable 32) l None) where
  no_test : Unknown ≡ said l
  unfolding operator_byte operator_fits operator_text
  no_test = none_says (omega arith) (omega arith) (λ e. omega arith) (λ e. omega arith) tried
    where
      tried : (i : Operator) → operator_byte i ≡ get_or l 0 0 → operator_fits i ≡ true → operator_text i ≡ l → ⊥
      tried (Ld o) h f e = omega arith
      tried (Ldn o) h f e = omega arith
      tried (And o) h f e = and o f e
      tried (Andn o) h f e = andn o f e
      tried Or h f e = omega arith
      tried Close h f e = omega arith
      tried (St o) h f e = omega arith
      tried (S o) h f e = omega arith
      tried (R o) h f e = omega arith
      tried (Cal o) h f e = omega arith
      tried (LdTime n) h f e = omega arith

-- the fourth byte tells AND from ANDN
module _ {l : List ℕ} (b : get_or l 0 0 ≡ 65) where
  pub no_andn : get_or l 3 0 ≡ 78 → Names (bytes "ANDN ") (testable 32) l None → Unknown ≡ said l
  no_andn k s = no_test b (λ o f e. omega (arith, ap (λ x. get_or x 3 0) e)) s

  pub no_and : get_or l 3 0 ≢ 78 → Names (bytes "AND ") (testable 32) l None → Unknown ≡ said l
  no_and k s = no_test b s (λ o f e. k (sym (ap (λ x. get_or x 3 0) e)))

pub short_and : (l : List ℕ) → get_or l 0 0 ≡ 65 → length l ≤ 3 → Unknown ≡ said l
short_and l b k = no_test b (λ o f e. omega (arith, ap length e)) (λ o f e. omega (arith, ap length e))

-- ---- what ends a rung

-- an operand that takes a flip-flop only
only_mx : {A : Type 0} (o : Operand) → flip_flop_fits o ≡ true → ((n : ℕ) → n ≤ 255 → o ≡ Mx n → A) → A
unfolding flip_flop_fits
only_mx (Mx n) f k = k n (leb-true n 255 f) refl
only_mx (Ix n) f k = absurd (false≢true f)
only_mx (Qx n) f k = absurd (false≢true f)
only_mx (TimerQ n) f k = absurd (false≢true f)
only_mx (TimerIn n) f k = absurd (false≢true f)
only_mx (TimerPt n) f k = absurd (false≢true f)
only_mx (Timer n) f k = absurd (false≢true f)
only_mx False f k = absurd (false≢true f)
only_mx True f k = absurd (false≢true f)

-- a word, %MX and a number
no_mx : (head : List ℕ) (o : Operand) {l : List ℕ} → flip_flop_fits o ≡ true → Spells (head ++ bytes "%MX") [] 0 255 l None → head ++ operand_text o ≡ l → ⊥
unfolding operand_text
no_mx head o f s e = only_mx o f (λ n h z. s n (omega arith) h (append_assoc head (bytes "%MX") (decimal n ++ []) ∙ ap (λ x. head ++ (bytes "%MX" ++ x)) (append-nil (decimal n)) ∙ ap (λ x. head ++ operand_text x) (sym z) ∙ e))

module _ {l : List ℕ} (b : Stores l) (put : (o : Operand) → (flip_flop_fits o || output_fits o || parameter_fits o) ≡ true → bytes "ST " ++ operand_text o ≡ l → ⊥)
    (s : Spells (bytes "S %MX") [] 0 255 l None) (r : Spells (bytes "R %MX") [] 0 255 l None) where
  no_end : Unknown ≡ said l
  unfolding operator_byte operator_fits operator_text
  no_end = none_says (omega arith) (omega arith) (λ e. omega arith) (λ e. omega arith) tried
    where
      tried : (i : Operator) → operator_byte i ≡ get_or l 0 0 → operator_fits i ≡ true → operator_text i ≡ l → ⊥
      tried (Ld o) h f e = omega arith
      tried (Ldn o) h f e = omega arith
      tried (And o) h f e = omega arith
      tried (Andn o) h f e = omega arith
      tried Or h f e = omega arith
      tried Close h f e = omega arith
      tried (St o) h f e = put o f e
      tried (S o) h f e = no_mx (bytes "S ") o f s e
      tried (R o) h f e = no_mx (bytes "R ") o f r e
      tried (Cal o) h f e = omega arith
      tried (LdTime n) h f e = omega arith

pub short_store : (l : List ℕ) → Stores l → length l ≤ 1 → Unknown ≡ said l
short_store l b k = no_end b (λ o f e. omega (arith, ap length e)) (λ n p q e. omega (arith, ap length e)) (λ n p q e. omega (arith, ap length e))

-- the second byte tells ST from S and R
module _ {l : List ℕ} (b : Stores l) where
  pub no_store : get_or l 1 0 ≢ 84 → Spells (bytes "S %MX") [] 0 255 l None → Spells (bytes "R %MX") [] 0 255 l None → Unknown ≡ said l
  no_store k = no_end b (λ o f e. k (sym (ap (λ x. get_or x 1 0) e)))

module _ {l : List ℕ} (b : Puts l) (mx : Spells (bytes "ST %MX") [] 0 255 l None) (qx : Spells (bytes "ST %QX") [] 1 64 l None) (on : Spells (bytes "ST T") (bytes ".IN") 1 32 l None) (pt : Spells (bytes "ST T") (bytes ".PT") 1 32 l None) where
  put_none : (o : Operand) → (flip_flop_fits o || output_fits o || parameter_fits o) ≡ true → bytes "ST " ++ operand_text o ≡ l → ⊥
  unfolding flip_flop_fits output_fits parameter_fits operand_text
  put_none (Mx n) f e = mx n (omega arith) (leb-true n 255 (or_right (leb n 255) (or_right (leb n 255 || false) f))) (ap (λ x. bytes "ST %MX" ++ x) (append-nil (decimal n)) ∙ e)
  put_none (Ix n) f e = false≢true f
  put_none (Qx n) f e = let w = within 1 64 n (or_right _ f) in qx n w.0 w.1 (ap (λ x. bytes "ST %QX" ++ x) (append-nil (decimal n)) ∙ e)
  put_none (TimerQ n) f e = false≢true f
  put_none (TimerIn n) f e = on n (within 1 32 n f).0 (within 1 32 n f).1 e
  put_none (TimerPt n) f e = pt n (within 1 32 n f).0 (within 1 32 n f).1 e
  put_none (Timer n) f e = false≢true f
  put_none False f e = false≢true f
  put_none True f e = false≢true f

  pub no_put : Unknown ≡ said l
  no_put = no_end b.0 put_none (λ n p q e. omega (arith, b.1, ap (λ x. get_or x 1 0) e)) (λ n p q e. omega (arith, b.1, ap (λ x. get_or x 1 0) e))

-- ---- any other line

module _ {l : List ℕ} (b : Others l) (or : bytes "OR(" ≡ l → ⊥) (close : bytes ")" ≡ l → ⊥) (call : Spells (bytes "CAL T") [] 1 32 l None) (block : Spells (bytes "T") (bytes " : TON;") 1 32 l None)
    (var : bytes "VAR" ≡ l → ⊥) (endVar : bytes "END_VAR" ≡ l → ⊥) (header : bytes "PROGRAM CHART" ≡ l → ⊥) (end : bytes "END_PROGRAM" ≡ l → ⊥) where
  no_call : (o : Operand) → block_fits o ≡ true → bytes "CAL " ++ operand_text o ≡ l → ⊥
  unfolding block_fits operand_text
  no_call (Mx n) f e = false≢true f
  no_call (Ix n) f e = false≢true f
  no_call (Qx n) f e = false≢true f
  no_call (TimerQ n) f e = false≢true f
  no_call (TimerIn n) f e = false≢true f
  no_call (TimerPt n) f e = false≢true f
  no_call (Timer n) f e = call n (within 1 32 n f).0 (within 1 32 n f).1 (ap (λ x. bytes "CAL T" ++ x) (append-nil (decimal n)) ∙ e)
  no_call False f e = false≢true f
  no_call True f e = false≢true f

  no_instruction : (i : Operator) → operator_byte i ≡ get_or l 0 0 → operator_fits i ≡ true → operator_text i ≡ l → ⊥
  unfolding operator_byte operator_fits operator_text
  no_instruction (Ld o) h f e = b.1 (sym h)
  no_instruction (Ldn o) h f e = b.1 (sym h)
  no_instruction (And o) h f e = b.0 (sym h)
  no_instruction (Andn o) h f e = b.0 (sym h)
  no_instruction Or h f e = or e
  no_instruction Close h f e = close e
  no_instruction (St o) h f e = omega (arith, b.2 (omega arith))
  no_instruction (S o) h f e = omega (arith, b.2 (omega arith))
  no_instruction (R o) h f e = omega (arith, b.2 (omega arith))
  no_instruction (Cal o) h f e = no_call o f e
  no_instruction (LdTime n) h f e = b.1 (sym h)

  pub no_other : Unknown ≡ said l
  unfolding line_byte line_fits line_text
  no_other = none_begins tried
    where
      tried : (t : Line) → line_byte t ≡ get_or l 0 0 → line_fits t ≡ true → line_text t ≡ l → ⊥
      tried Header h f e = header e
      tried Var h f e = var e
      tried (Block n) h f e = block n (within 1 32 n f).0 (within 1 32 n f).1 e
      tried EndVar h f e = endVar e
      tried (Says i) h f e = no_instruction i h f e
      tried EndProgram h f e = end e
      tried Unknown h f e = false≢true f

-- no line is empty
pub no_line : (l : List ℕ) → length l ≡ 0 → Unknown ≡ said l
unfolding said line_in line_fits operator_in operand_in timer_operand leading operator_fits block_fits
no_line [] h = refl
no_line (b ∷ l) h = absurd (omega arith)
