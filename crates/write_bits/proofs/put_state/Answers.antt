-- One level further down is one group more.
use mathlib.Core.Path.{◌≡◌}
use Prim.Native.Nat.{◌-◌, ◌+◌}
use native.Mathlib.Omega.{arith}
use Rattle.meaning.specs.Hierarchy.{up, depth}
use Rattle.meaning.specs.Written.{path_bits}
use Rattle.write_bits.specs.SentLaws.{sent_none, path_step}
use Rattle.write_bits.specs.GroupLaws.{path_up}
use Rattle.write_bits.proofs.put_state.Goals as goal

pub loop-k-init : goal.loop-k-init
unfolding path_bits
loop-k-init c g q d h =
    let r = c.rise-deep.ensures.1 g q d.rules in
    let e : depth g c.args.s - c.rise-deep.result ≡ 0 = omega (arith, r.deep) in
    rw e (sent_none _ _ (omega arith) (omega arith))

pub loop-k-preserved : goal.loop-k-preserved
loop-k-preserved c g q d h =
    let b = c.loop-k in
    let a = c.args in
    let r = c.rise-deep.ensures.1 g q d.rules in
    let u = path_up g d.rules a.s b.k h (omega arith) (omega (arith, r.deep)) in
    let x = r.path b.k (omega arith) in
    let y = r.path (b.k - 1) (omega arith) in
    let z : b.k - 1 + 1 ≡ b.k = omega arith in
    let e : depth g a.s - (b.k - 1) - 1 ≡ depth g a.s - b.k = omega arith in
    path_step g a.layout.now.total (depth g a.s - (b.k - 1)) (up g b.k a.s) (up g (b.k - 1) a.s) (λ z. omega (arith, r.deep)) u.1 (rw e (b.invariant g q d h))
    (rw (z, x, y) at (c.put_group-p.ensures g d.laid d.rules (rw (z, x, y) u.0)))

pub returns : goal.returns
unfolding up
returns c g q d h =
    let b = c.loop-k in
    let e : b.k ≡ 0 = omega arith in
    let f : depth g c.args.s - 0 ≡ depth g c.args.s = omega arith in
    rw f at (rw e at (b.invariant g q d h))
