-- A word that calls a block gives it the time loaded last; any other leaves the times.
use Rattle.std.proofs.Common.{get_or, length-set, sym, ap, ◌∙◌, arith}
use Rattle.format.specs.Decode.{decoded}
use Rattle.il_times.specs.Sizes.{Rungs, rungs_on, rungs_end, rung_called, rung_none}
use Rattle.il_times.proofs.times_of.Goals as goal
use Rattle.il_times.proofs.times_of.Goals.{in-Some, in_default}

pub loop-w-preserved : goal.loop-w-preserved
loop-w-preserved c =
    let l = c.loop-w in
    let ws = c.args.words.now in
    let i = decoded (get_or ws l.w-index 0) in
    let t = c.time_of-time.ensures in
    let o = rungs_on ws l.w-index (record { time = l.time; times = l.times }) (omega arith) in
    elim c.match-word_due.branch [
      | in-Some w ↦ let k = w.in-Some.ensures.block in record {
        long = rw w.times-is (length-set l.times _ _ ∙ l.invariant.long);
        on = rw (w.times-is, k, t) ((rw (rung_called i l.time l.times (rw k at w.in-Some.ensures.within)) at (sym o)) ∙ l.invariant.on);
      }
      | in_default w ↦ record {
        long = rw w.times-is l.invariant.long;
        on = rw (w.times-is, t) ((rw (rung_none i l.time l.times (omega (arith, w.in_default.ensures.block))) at (sym o)) ∙ l.invariant.on);
      }
    ]

pub returns : goal.returns
returns c =
    let l = c.loop-w in
    let e = sym l.invariant.on ∙ rungs_end c.args.words.now l.w-index (record { time = l.time; times = l.times }) (omega arith) in
    sym (ap (λ (r : Rungs). r.times) e)
