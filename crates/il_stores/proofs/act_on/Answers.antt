-- A store in a half of the bytes is a store in all of them.
use Rattle.std.proofs.Common.{◌≡◌, ℕ, ◌+◌, ◌-◌, ◌/◌, length, cond, arith}
use Rattle.il_stores.specs.Parts.{set_tail, set_head}
use Rattle.il_stores.proofs.act_on.Goals as goal

pub returns-then-k-half : goal.returns-then-k-half
returns-then-k-half c =
    let a = c.args in
    rw (c.set_or_reset.ensures, ← c.from-k.ensures) (set_head a.flip_flops.now (length a.flip_flops.now / 2) c.from-k.result (cond a.v 1 0) (omega arith))

pub returns-else-k-half : goal.returns-else-k-half
returns-else-k-half c =
    let a = c.args in
    let b : ℕ = length a.flip_flops.now / 2 in
    let k : ℕ = c.from-k.result in
    let e : b + (k - b) ≡ k = omega arith in
    rw (c.set_or_reset-else-k-half.ensures, ← c.from-k.ensures) (rw e at (set_tail a.flip_flops.now b (k - b) (cond a.v 1 0)))
