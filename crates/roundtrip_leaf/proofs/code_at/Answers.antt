-- One bit more, below those before.
use mathlib.Core.Path.{◌≡◌, sym, ◌∙◌}
use mathlib.Core.Bool.{true, false}
use Prim.Native.Nat.{◌+◌, ◌-◌}
use native.Mathlib.Omega.{arith}
use Rattle.meaning.specs.Rows.{table}
use Rattle.meaning.specs.Machine.{word_of}
use Rattle.meaning.specs.Scan.{flip_flop_on}
use Rattle.meaning.specs.Stands.{code_at}
use Rattle.roundtrip_leaf.specs.ShownLaws.{code_small, code_more}
use Rattle.roundtrip_leaf.proofs.code_at.Goals as goal

pub returns-then-width-gt8 : goal.returns-then-width-gt8
returns-then-width-gt8 c h = absurd (omega arith)

pub loop-i-init : goal.loop-i-init
unfolding code_at word_of table
loop-i-init c = let n = c.args.width in let z : n - n ≡ 0 = omega arith in (omega arith, omega arith, omega arith, rw (c.from-i.ensures, z))

pub loop-i-preserved-then-flip_flop : goal.loop-i-preserved-then-flip_flop
unfolding flip_flop_on
loop-i-preserved-then-flip_flop c =
    let a = c.args in
    let b = c.loop-i in
    let e = code_more a.flip_flops.now a.first b.i a.width b.code (omega arith) b.invariant.0 b.invariant.3 true (rw c.from.ensures at (sym c.flip_flop.ensures ∙ c.if-flip_flop.true)) in
    (omega arith, b.invariant.1, omega (arith, e, code_small a.flip_flops.now (a.first + (b.i - 1)) (a.width - (b.i - 1)) (omega arith)), omega (arith, e))

pub loop-i-preserved : goal.loop-i-preserved
unfolding flip_flop_on
loop-i-preserved c =
    let a = c.args in
    let b = c.loop-i in
    let e = code_more a.flip_flops.now a.first b.i a.width b.code (omega arith) b.invariant.0 b.invariant.3 false (rw c.from.ensures at (sym c.flip_flop.ensures ∙ c.if-flip_flop.false)) in
    (omega arith, b.invariant.1, omega (arith, e, code_small a.flip_flops.now (a.first + (b.i - 1)) (a.width - (b.i - 1)) (omega arith)), omega (arith, e))

pub returns : goal.returns
returns c h =
    let a = c.args in
    let b = c.loop-i in
    let z : a.first + b.i ≡ a.first = omega arith in
    let y : a.width - b.i ≡ a.width = omega arith in
    rw (z, y) at b.invariant.3
