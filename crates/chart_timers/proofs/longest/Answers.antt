-- A division rounded up is that of the preset and a step less 1.
use Rattle.std.proofs.Common.{◌≡◌, sym, ap, ℕ, ◌+◌, ◌-◌, ◌*◌, ◌/◌, ◌%◌, ◌<◌, min, arith, add-one}
use Rattle.std.proofs.lemmas.Grind.{div_ceil_times}
use Rattle.std.proofs.Math.Nat.{div-eq_of_lt-le, suc-mul}
use Rattle.chart_timers.proofs.longest.Goals as goal

rounded : (p d : ℕ) → 0 < d → p / d + min 1 (p % d) ≡ (p + d - 1) / d
rounded p d h =
    let q = p / d + min 1 (p % d) in
    let b = div_ceil_times p d h in
    let e : (q + 1) * d ≡ q * d + d = rw add-one (suc-mul q d) in
    sym (div-eq_of_lt-le d (omega (arith, b)) (omega (arith, b, e)))

pub overflow_mul-result : goal.overflow_mul-result
overflow_mul-result c =
    let a = c.args in
    let b = div_ceil_times a.preset a.step (omega arith) in
    rw (c.div_ceil.ensures, c.from.ensures, c.from-2.ensures, c.from-3.ensures) (record { fits = omega (arith, b, c.ranges.preset.fits, c.ranges.step.fits) })

pub returns : goal.returns
returns c =
    let a = c.args in
    rw (c.div_ceil.ensures, c.from.ensures, c.from-2.ensures, c.from-3.ensures) (ap (λ q. q * a.step) (rounded a.preset a.step (omega arith)))
