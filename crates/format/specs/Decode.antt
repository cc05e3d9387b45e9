-- From a 32-bit word back to the instruction: only operators with operands that some accepted list has.
use Rattle.std.specs.Prelude.{ℕ, ◌-◌, ◌/◌, ◌%◌, Bool, true, false, ◌||◌, cond, leb, eqb, Option, Some, None}
use Rattle.meaning.specs.Tables.{most_timers, most_preset}
use Rattle.meaning.specs.Literals.{between}
use Rattle.meaning.specs.Programs.{testable, constant, flip_flop_fits, output_fits}
use Rattle.meaning.specs.declared.Operand.{Operand}
use Rattle.meaning.specs.declared.Operand.TheVariants.{Mx, Ix, Qx, TimerQ, TimerIn, TimerPt, Timer, False, True}
use Rattle.meaning.specs.declared.Operator.{Operator}
use Rattle.meaning.specs.declared.Operator.TheVariants.{Ld, Ldn, And, Andn, Or, Close, St, S, R, Cal, LdTime}

-- what a word stands for: an instruction, or none
abbrev pub Decoded : Type 0
Decoded = Option Operator

-- by what a block's operand is: Tn.IN, Tn.PT, Tn, or any other
abbrev pub block_case : {A : Type 0} → (ℕ → A) → (ℕ → A) → (ℕ → A) → A → Operand → A
block_case input pt call any (Mx n) = any
block_case input pt call any (Ix n) = any
block_case input pt call any (Qx n) = any
block_case input pt call any (TimerQ n) = any
block_case input pt call any (TimerIn n) = input n
block_case input pt call any (TimerPt n) = pt n
block_case input pt call any (Timer n) = call n
block_case input pt call any False = any
block_case input pt call any True = any

-- Tn.IN or Tn.PT of a block that there may be
unfoldable pub parameter_fits : Operand → Bool
parameter_fits = block_case (between 1 most_timers) (between 1 most_timers) (λ n. false) false

-- Tn likewise
unfoldable pub block_fits : Operand → Bool
block_fits = block_case (λ n. false) (λ n. false) (between 1 most_timers) false

-- some accepted list has it
unfoldable pub operator_fits : Operator → Bool
operator_fits (Ld o) = testable most_timers o || constant o
operator_fits (Ldn o) = testable most_timers o
operator_fits (And o) = testable most_timers o
operator_fits (Andn o) = testable most_timers o
operator_fits Or = true
operator_fits Close = true
operator_fits (St o) = flip_flop_fits o || output_fits o || parameter_fits o
operator_fits (S o) = flip_flop_fits o
operator_fits (R o) = flip_flop_fits o
operator_fits (Cal o) = block_fits o
operator_fits (LdTime n) = between 1 most_preset n

-- the operand of a number; T0, which nothing takes, where there is none
unfoldable pub operand_of : ℕ → Operand
operand_of n = cond (leb n 384) (Mx n)
    (cond (leb n 512) (Ix (n - 384))
    (cond (leb n 768) (Qx (n - 512))
    (cond (leb n 1024) (TimerQ (n - 768))
    (cond (leb n 1280) (TimerIn (n - 1024))
    (cond (leb n 1536) (TimerPt (n - 1280))
    (cond (leb n 1999) (Timer (n - 1536))
    (cond (eqb n 2000) False
    (cond (eqb n 2001) True (Timer 0)))))))))

unfoldable pub kept : Operator → Decoded
kept i = cond (operator_fits i) (Some i) None

-- operator k with operand m
unfoldable pub unpacked : ℕ → ℕ → Decoded
unpacked k m = cond (eqb k 1) (kept (Ld (operand_of m)))
    (cond (eqb k 2) (kept (Ldn (operand_of m)))
    (cond (eqb k 3) (kept (And (operand_of m)))
    (cond (eqb k 4) (kept (Andn (operand_of m)))
    (cond (eqb k 5) (cond (eqb m 0) (Some Or) None)
    (cond (eqb k 6) (cond (eqb m 0) (Some Close) None)
    (cond (eqb k 7) (kept (St (operand_of m)))
    (cond (eqb k 8) (kept (S (operand_of m)))
    (cond (eqb k 9) (kept (R (operand_of m)))
    (cond (eqb k 10) (kept (Cal (operand_of m)))
    (cond (eqb k 11) (kept (LdTime m)) None))))))))))

unfoldable pub decoded : ℕ → Decoded
decoded n = unpacked (n / 134217728) (n % 134217728)
