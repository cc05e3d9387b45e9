-- At the root no level is ahead; elsewhere one level up is one level less ahead.
use Rattle.std.proofs.Common.{◌≡◌, refl, ap, rules, arith, ℕ, zero, suc, ◌+◌, ◌-◌}
use Rattle.meaning.specs.Tables.{Tables, super_state}
use Rattle.meaning.specs.Hierarchy.{levels, depth}
use Rattle.tables.specs.Given.{given}
use Rattle.tables.proofs.ChartTables.depth.Goals as goal

at_root : (c : Tables) (k : ℕ) → levels c k 0 ≡ 0
unfolding levels
at_root c zero = refl
at_root c (suc k) = refl

one_up : (c : Tables) (k t : ℕ) → (t ≡ 0 → ⊥) → levels c (suc k) t ≡ suc (levels c k (super_state c t))
unfolding levels
one_up c k zero n = absurd (n refl)
one_up c k (suc t) n = refl

pub loop-k-init : goal.loop-k-init
unfolding depth
loop-k-init c = search rules

pub returns-then-t-eq0 : goal.returns-then-t-eq0
returns-then-t-eq0 c =
    let b = c.loop-k in
    let d = given c.args.self.now in
    omega (arith, b.invariant, at_root d (9 - b.k), ap (levels d (9 - b.k)) c.if-t-eq0.true)

pub loop-k-preserved : goal.loop-k-preserved
loop-k-preserved c =
    let b = c.loop-k in
    let d = given c.args.self.now in
    let k : 9 - b.k ≡ suc (9 - (b.k + 1)) = omega arith in
    let f : levels d (9 - b.k) b.t ≡ suc (levels d (9 - (b.k + 1)) c.super_state-t.result) =
    rw (k, c.super_state-t.ensures) (one_up d (9 - (b.k + 1)) b.t c.if-t-eq0.false) in
    omega (arith, b.invariant, f)

pub returns : goal.returns
unfolding levels
returns c =
    let b = c.loop-k in
    let d = given c.args.self.now in
    let k : 9 - b.k ≡ 0 = omega arith in
    let f : levels d (9 - b.k) b.t ≡ 0 = rw k in
    omega (arith, b.invariant, f)
