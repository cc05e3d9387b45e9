-- One preset more is one entry more, which its width holds.
use Rattle.std.proofs.Common.{◌∙◌, ◌<◌, arith, length-set, get_or-set_same, get_or-set_other}
use native.Mathlib.Decide.{ℕ_discrete}
use Rattle.std.proofs.lemmas.Result.{Ok-from_Ok_iff}
use Rattle.meaning.specs.Tables.{timer_count}
use Rattle.chart_timers.proofs.longest_of.Goals as goal

pub bounds-t-i : goal.bounds-t-i
unfolding timer_count
bounds-t-i c = omega arith

pub loop-i-preserved : goal.loop-i-preserved
loop-i-preserved c =
    let b = c.loop-i in (
      length-set b.most b.i c.unwrap_or.result ∙ b.invariant.0,
      λ p j h k. elim (ℕ_discrete j b.i) [
        | yes x ↦ (let f : c.longest.result < 4294967296 = rw c.longest.ensures (rw x at k) in
            let o = Ok-from_Ok_iff c.try_from.result _ c.longest.result c.try_from.ensures f in
            rw (x, get_or-set_same b.most b.i c.unwrap_or.result 0 (omega (arith, b.invariant.0)), c.unwrap_or.ensures, o) c.longest.ensures)
        | no x ↦ get_or-set_other b.most b.i j c.unwrap_or.result 0 x ∙ b.invariant.1 p j (omega arith) k
      ],
    )
