-- One level more is a space and the state above.
use Rattle.std.proofs.Common.{arith}
use mathlib.Core.Path.{◌≡◌, refl, ap, ◌∙◌}
use Prim.Native.Nat.{ℕ}
use native.Mathlib.Numerals.{add-one}
use Rattle.meaning.specs.Tables.{super_state}
use Rattle.meaning.specs.Hierarchy.{up, depth}
use Rattle.tables.specs.Given.{given}
use Rattle.write_lines.specs.Put.{put_put, put_none}
use Rattle.print_needs.specs.Lines.{above_none, above_more, upward_all}
use Rattle.print_needs.proofs.put_upward.Goals as goal

pub loop-k-init : goal.loop-k-init
unfolding up
loop-k-init c = (refl, rw (above_none (given c.args.t.now) c.args.s) (put_none _ _ (omega arith) (omega arith)))

pub loop-k-preserved : goal.loop-k-preserved
unfolding up
loop-k-preserved c =
    let b = c.loop-k in
    let d = given c.args.t.now in
    let s : ℕ = c.args.s in
    let u : c.super_state-above.result ≡ super_state d (up d b._k s) = c.super_state-above.ensures ∙ ap (super_state d) b.invariant.0 in
    (rw add-one u, rw (add-one, above_more d s b._k, ← u) (put_put b.invariant.1 (put_put c.put-p.ensures c.put_decimal-p-in-loop-k.ensures)))

pub returns : goal.returns
returns c =
    let b = c.loop-k in
    let d = given c.args.t.now in
    let s : ℕ = c.args.s in
    let k : b._k ≡ depth d s = omega (arith, c.depth-k-end.ensures) in
    rw (← upward_all d s, ← k) (put_put c.put_decimal-p.ensures b.invariant.1)
