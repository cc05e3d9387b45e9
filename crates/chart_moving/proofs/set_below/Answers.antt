-- A leaf is set to 0 and ends it; elsewhere one level down is set and one level less is left.
use Rattle.std.proofs.Common.{◌≡◌, ◌≢◌, sym, ◌∙◌, ℕ, suc, ◌<◌, ◌-◌, ◌+◌, arith, eq-eqb, ne_eqb}
use mathlib.Core.Logic.{inl, inr}
use Rattle.meaning.proofs.Laws.Rows.{which}
use Rattle.meaning.specs.Tables.{Tables, state_count, initial}
use Rattle.meaning.specs.Hierarchy.{is_leaf}
use Rattle.meaning.specs.Rules.{Rules}
use Rattle.meaning.proofs.Laws.Tree.{initial_leaf, initial_sub}
use Rattle.tables.specs.Given.{given}
use Rattle.tables.specs.Same.{initial_same}
use Rattle.chart_moving.specs.Moves.{set_below}
use Rattle.chart_moving.proofs.set_below.Goals as goal

-- an initial sub-state is a state
initial_known : (c : Tables) → Rules c → (s : ℕ) → s < state_count c → initial c s < state_count c
initial_known c R s h = elim (which (is_leaf c s)) [
  | inl e ↦ rw (initial_leaf c R s h e) (omega arith)
  | inr e ↦ (initial_sub c R s h e).known
]

pub returns-then-below-eq0 : goal.returns-then-below-eq0
unfolding set_below
returns-then-below-eq0 c c' e R h =
    let b = c.loop-k in
    let i = b.invariant c' e R h in
    let z : 9 - b.k ≡ suc (9 - (b.k + 1)) = omega arith in
    let p = c.initial-below.ensures ∙ sym (initial_same c' (given c.args.t.now) e b.s) in
    let few = R.size.few_states in
    c.remember.ensures (omega (arith, p, initial_known c' R b.s i.0))
    ∙ rw p (rw (z, set_below, eq-eqb (initial c' b.s) 0 (sym p ∙ c.if-below-eq0.true)) at i.1)

pub loop-k-preserved : goal.loop-k-preserved
unfolding set_below
loop-k-preserved c c' e R h =
    let b = c.loop-k in
    let i = b.invariant c' e R h in
    let z : 9 - b.k ≡ suc (9 - (b.k + 1)) = omega arith in
    let p = c.initial-below.ensures ∙ sym (initial_same c' (given c.args.t.now) e b.s) in
    let few = R.size.few_states in
    let v = initial_known c' R b.s i.0 in
    let n : initial c' b.s ≢ 0 = λ x. c.if-below-eq0.false (p ∙ x) in
    (rw p v, rw (c.remember.ensures (omega (arith, p)), p) (rw (z, set_below, ne_eqb (initial c' b.s) 0 n) at i.1))

pub returns : goal.returns
unfolding set_below
returns c c' e R h = let b = c.loop-k in let z : 9 - b.k ≡ 0 = omega arith in rw z at (b.invariant c' e R h).1
