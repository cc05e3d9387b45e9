-- One block more in its time, one out of it, and that none is left in the end.
use Rattle.std.proofs.Common.{◌≡◌, ◌+◌, true, false, drop, get_or, sym, ◌∙◌, arith}
use Rattle.meaning.specs.Scan.{blank}
use Rattle.il_block.specs.Called.{in_its_time}
use Rattle.il_run.specs.RowLaws.{time_on, time_end, time_out}
use Rattle.il_run.proofs.in_time.Goals as goal

pub returns-then-not-in_its_time : goal.returns-then-not-in_its_time
returns-then-not-in_its_time c =
    let bs = c.args.blocks.now in
    let t = c.times_of-times.result in
    let i = c.loop-i.i in
    let e : in_its_time i (get_or bs i blank) t ≡ false = sym c.in_its_time.ensures ∙ c.if-not-in_its_time.true in
    rw (← c.times_of-times.ensures) (sym (time_out (drop (i + 1) bs) t (i + 1)) ∙ sym (rw e at (time_on bs t i true (omega arith))) ∙ c.loop-i.invariant)

pub loop-i-preserved : goal.loop-i-preserved
loop-i-preserved c =
    let bs = c.args.blocks.now in
    let t = c.times_of-times.result in
    let i = c.loop-i.i in
    let e : in_its_time i (get_or bs i blank) t ≡ true = sym c.in_its_time.ensures ∙ c.if-not-in_its_time.false in
    sym (rw e at (time_on bs t i true (omega arith))) ∙ c.loop-i.invariant

pub returns : goal.returns
returns c =
    let l = c.loop-i in
    rw (← c.times_of-times.ensures) (sym (time_end c.args.blocks.now c.times_of-times.result l.i true (omega arith)) ∙ l.invariant)
