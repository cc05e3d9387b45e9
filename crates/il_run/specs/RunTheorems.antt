-- What is proved of the runs of a program.
use Rattle.std.specs.Prelude.{◌≡◌, refl, ℕ, suc, ◌<◌, Bool, true, not, ◌&&◌, List, [], ◌∷◌, ◌++◌, length, get_or}
use Rattle.std.proofs.Common.{sym, ap, subst, ◌∙◌, arith}
use Rattle.meaning.specs.Literals.{input_on}
use Rattle.meaning.specs.Machine.{word_of}
use Rattle.meaning.specs.Programs.{Program, instructions, program_fits, carried}
use Rattle.meaning.specs.Scan.{Controller, MidScan, ValidController, value_of, with_result, executed, executed_all, scan_begun, scanned, output_word, scanned_all, output_trace}
use Rattle.meaning.proofs.Laws.Execute.{program_executed}
use Rattle.meaning.specs.declared.Operand.{Operand}
use Rattle.meaning.specs.declared.Operand.TheVariants.{Mx, Ix, Qx, TimerQ, TimerIn, TimerPt, Timer, False, True}
use Rattle.meaning.specs.declared.Operator.{Operator}
use Rattle.meaning.specs.declared.Operator.TheVariants.{Ld, Ldn, And, Andn, Or, Close, St, S, R, Cal, LdTime}
use Rattle.il_run.specs.KeptLaws.{program_valid}

-- a run of n + m scans is a run of n and then, from the controller that these leave, a run of m
pub run_append : (d : ℕ) (is : List Operator) (k : Controller) (xs ys : List ℕ) → scanned_all d is k (xs ++ ys) ≡ scanned_all d is (scanned_all d is k xs) ys
unfolding scanned_all
run_append d is k [] ys = refl
run_append d is k (x ∷ xs) ys = run_append d is (scanned d x is k) xs ys

pub outputs_append : (d : ℕ) (is : List Operator) (k : Controller) (xs ys : List ℕ) → output_trace d is k (xs ++ ys) ≡ output_trace d is k xs ++ output_trace d is (scanned_all d is k xs) ys
unfolding scanned_all output_trace
outputs_append d is k [] ys = refl
outputs_append d is k (x ∷ xs) ys = ap (λ (l : List ℕ). output_word d x is k ∷ l) (outputs_append d is (scanned d x is k) xs ys)

-- a scan leaves a valid controller, so what a run leaves can be lent again
pub scan_valid : (p : Program) → program_fits p ≡ true → (d x : ℕ) (k : Controller) → ValidController p k → ValidController p (scanned d x (instructions p) k)
unfolding scanned
scan_valid p e d x k K = subst (λ (w : MidScan). ValidController p w.controller) (sym (program_executed p e d x (scan_begun k))) (program_valid p e d x k K)

pub run_valid : (p : Program) → program_fits p ≡ true → (d : ℕ) (k : Controller) (xs : List ℕ) → ValidController p k → ValidController p (scanned_all d (instructions p) k xs)
unfolding scanned_all
run_valid p e d k [] K = K
run_valid p e d k (x ∷ xs) K = run_valid p e d (scanned d x (instructions p) k) xs (scan_valid p e d x k K)

-- ---- the inputs that matter

-- the words x and y agree at the inputs that the instructions name
abbrev pub Agree : ℕ → ℕ → List Operator → Type 0
Agree x y is = (j n : ℕ) → j < length is → carried (get_or is j Or) ≡ Ix n → input_on x n ≡ input_on y n

value_same : (x y : ℕ) (k : Controller) (o : Operand) → ((n : ℕ) → o ≡ Ix n → input_on x n ≡ input_on y n) → value_of x k o ≡ value_of y k o
unfolding value_of
value_same x y k (Mx n) h = refl
value_same x y k (Ix n) h = h n refl
value_same x y k (Qx n) h = refl
value_same x y k (TimerQ n) h = refl
value_same x y k (TimerIn n) h = refl
value_same x y k (TimerPt n) h = refl
value_same x y k (Timer n) h = refl
value_same x y k False h = refl
value_same x y k True h = refl

one_same : (d x y : ℕ) (i : Operator) (w : MidScan) → ((n : ℕ) → carried i ≡ Ix n → input_on x n ≡ input_on y n) → executed d x i w ≡ executed d y i w
unfolding executed carried
one_same d x y (Ld o) w h = ap (λ (v : Bool). with_result v w) (value_same x y w.controller o h)
one_same d x y (Ldn o) w h = ap (λ (v : Bool). with_result (not v) w) (value_same x y w.controller o h)
one_same d x y (And o) w h = ap (λ (v : Bool). with_result (w.result && v) w) (value_same x y w.controller o h)
one_same d x y (Andn o) w h = ap (λ (v : Bool). with_result (w.result && not v) w) (value_same x y w.controller o h)
one_same d x y Or w h = refl
one_same d x y Close w h = refl
one_same d x y (St o) w h = refl
one_same d x y (S o) w h = refl
one_same d x y (R o) w h = refl
one_same d x y (Cal o) w h = refl
one_same d x y (LdTime n) w h = refl

all_same : (d x y : ℕ) (is : List Operator) (w : MidScan) → Agree x y is → executed_all d x is w ≡ executed_all d y is w
unfolding executed_all
all_same d x y [] w h = refl
all_same d x y (i ∷ is) w h = ap (executed_all d x is) (one_same d x y i w (λ n e. h 0 n (omega arith) e)) ∙ all_same d x y is (executed d y i w) (λ j n l e. h (suc j) n (omega arith) e)

-- such words give the same scan
pub same_inputs : (d x y : ℕ) (is : List Operator) (k : Controller) → Agree x y is → (scanned d x is k ≡ scanned d y is k) × (output_word d x is k ≡ output_word d y is k)
unfolding scanned output_word
same_inputs d x y is k h = let e = all_same d x y is (scan_begun k) h in (ap (λ (w : MidScan). w.controller) e, ap (λ (w : MidScan). word_of w.outputs) e)
