-- A block that is not the 0th is the next one where the one before it is the last.
use mathlib.Core.Path.{◌≡◌, sym, ◌∙◌}
use mathlib.Core.Logic.{◌≢◌, inl, inr}
use Prim.Native.Nat.{ℕ, suc, ◌-◌}
use native.Mathlib.Omega.{arith}
use lib.Dec.{eqb}
use borrow.Author.Tests.{eqb-true, eqb-false, eq-eqb, ne_eqb}
use Rattle.meaning.proofs.Laws.Rows.{which}

pub pred_eqb : (n t : ℕ) → n ≢ 0 → eqb (n - 1) t ≡ eqb n (suc t)
pred_eqb n t h = elim (which (eqb n (suc t))) [
  | inl e ↦ eq-eqb (n - 1) t (omega (arith, eqb-true n (suc t) e)) ∙ sym e
  | inr e ↦ ne_eqb (n - 1) t (λ d. eqb-false n (suc t) e (omega arith)) ∙ sym e
]
