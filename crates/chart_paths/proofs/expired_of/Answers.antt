-- One row more is one bit more; beyond the timers that there may be nothing is asked.
use native.Mathlib.Omega.{arith}
use mathlib.Core.Path.{◌≡◌, refl, ap, sym, ◌∙◌}
use mathlib.Core.Bool.{Bool, ◌&&◌, ◌||◌, or-false}
use Prim.Native.Nat.{ℕ, suc, ◌+◌}
use lib.Dec.{eqb, ltb}
use borrow.Author.Tests.{eq-eqb, ne_eqb, lt-ltb, le-ltb, ltb-true}
use native.Mathlib.Decide.{ℕ_discrete}
use Rattle.meaning.proofs.Laws.Rows.{same_test}
use Rattle.chart_paths.specs.Words.{expired_at}
use Rattle.meaning.proofs.Laws.Bits.{no_bit}
use Rattle.tables.specs.Given.{given}
use Rattle.chart_paths.proofs.expired_of.Goals as goal

-- the bit of row j, once that of row i is set if e i
one_more : (e : ℕ → Bool) (i j : ℕ) → ((ltb j i && e j) || (eqb i j && e i)) ≡ (ltb j (i + 1) && e j)
one_more e i j = elim (ℕ_discrete i j) [
  | yes x ↦ rw (x, le-ltb j j (omega arith), eq-eqb j j refl, lt-ltb j (j + 1) (omega arith))
  | no x ↦ rw (ne_eqb i j x, or-false (ltb j i && e j)) (ap (λ b. b && e j) (same_test _ _ (λ f. lt-ltb j (i + 1) (omega (arith, ltb-true j i f))) (λ f. lt-ltb j i (omega (arith, x, ltb-true j (i + 1) f)))))
]

pub loop-i-init : goal.loop-i-init
loop-i-init c j = no_bit (suc j) ∙ sym (ap (λ b. b && expired_at (given c.args.t.now).presets c.args.running c.args.timers.now j) (le-ltb j 0 (omega arith)))

pub loop-i-preserved : goal.loop-i-preserved
loop-i-preserved c j =
    let b = c.loop-i in
    let a = c.args in
    rw (c.with_bit_if-word.ensures j, b.invariant j, c.is_expired.ensures) (one_more (expired_at (given a.t.now).presets a.running a.timers.now) b.i j)

pub returns : goal.returns
returns c h i k = let b = c.loop-i in b.invariant i ∙ rw (lt-ltb i b.i (omega arith))
