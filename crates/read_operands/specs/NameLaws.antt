-- The operands of tests, one by one, and what stands behind a head.
use Rattle.std.specs.Prelude.{◌≡◌, ℕ, ◌≤◌, Bool, List, [], ◌++◌, length, take, drop, Some, None, Option}
use Rattle.std.proofs.Common.{sym, ap₂, ◌∙◌, arith, append-nil, length-append, take-append-drop, le-leb, leb-true}
use Rattle.std.proofs.Math.Path.{ap}
use Rattle.std.proofs.Math.Bool.{false≢true}
use Rattle.std.proofs.Math.Seq.{take-append_seam, drop-append_seam}
use Rattle.meaning.specs.Programs.{testable}
use Rattle.meaning.specs.declared.Operand.{Operand}
use Rattle.meaning.specs.declared.Operand.TheVariants.{Mx, Ix, Qx, TimerQ, TimerIn, TimerPt, Timer, False, True}
use Rattle.format.specs.Text.{bytes, decimal, operand_text}
use Rattle.format.proofs.Laws.Decode.{within, in_range}
use Rattle.read_decimals.specs.Forms.{Spells}
use Rattle.read_operands.specs.Names.{Names}

module _ {l : List ℕ} {n : ℕ} where
  pub tests_mx : Spells (bytes "%MX") [] 0 255 l (Some n) → Names [] (testable 32) l (Some (Mx n))
  unfolding testable operand_text
  tests_mx s = (le-leb n 255 s.1, ap (λ x. bytes "%MX" ++ x) (sym (append-nil (decimal n))) ∙ s.2)

  pub tests_ix : Spells (bytes "%IX") [] 1 64 l (Some n) → Names [] (testable 32) l (Some (Ix n))
  unfolding testable operand_text
  tests_ix s = (in_range 1 64 n s.0 s.1, ap (λ x. bytes "%IX" ++ x) (sym (append-nil (decimal n))) ∙ s.2)

  pub tests_q : Spells (bytes "T") (bytes ".Q") 1 32 l (Some n) → Names [] (testable 32) l (Some (TimerQ n))
  unfolding testable operand_text
  tests_q s = (in_range 1 32 n s.0 s.1, s.2)

module _ {l : List ℕ} (mx : Spells (bytes "%MX") [] 0 255 l None) (ix : Spells (bytes "%IX") [] 1 64 l None) (q : Spells (bytes "T") (bytes ".Q") 1 32 l None) where
  pub tests_none : Names [] (testable 32) l None
  unfolding testable operand_text
  tests_none (Mx n) f e = mx n (omega arith) (leb-true n 255 f) (ap (λ x. bytes "%MX" ++ x) (append-nil (decimal n)) ∙ e)
  tests_none (Ix n) f e = ix n (within 1 64 n f).0 (within 1 64 n f).1 (ap (λ x. bytes "%IX" ++ x) (append-nil (decimal n)) ∙ e)
  tests_none (Qx n) f e = false≢true f
  tests_none (TimerQ n) f e = q n (within 1 32 n f).0 (within 1 32 n f).1 e
  tests_none (TimerIn n) f e = false≢true f
  tests_none (TimerPt n) f e = false≢true f
  tests_none (Timer n) f e = false≢true f
  tests_none False f e = false≢true f
  tests_none True f e = false≢true f

-- ---- behind a head

pub names_part : (head l : List ℕ) (passes : Operand → Bool) (r : (Option Operand)) → head ≡ take (length head) l → Names [] passes (drop (length head) l) r → Names head passes l r
names_part head l passes (Some o) h s = (s.0, ap₂ ◌++◌ h s.1 ∙ take-append-drop (length head) l)
names_part head l passes None h s = λ o f e. s o f (sym (ap (drop (length head)) (sym e) ∙ drop-append_seam head (operand_text o)))

-- what begins with a head
pub begins : (head x l : List ℕ) → head ++ x ≡ l → (length head ≤ length l) × (head ≡ take (length head) l)
begins head x l e = (let n = length-append head x in omega (arith, ap length e), sym (ap (take (length head)) (sym e) ∙ take-append_seam head x))
