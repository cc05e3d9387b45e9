-- A row passes as its value does, and all rows where no value failed.
use Rattle.std.proofs.Common.{sym, arith}
use borrow.Author.Count.{below_more}
use Rattle.meaning.specs.Tables.{timer_count}
use Rattle.meaning.proofs.Laws.Rows.{every_intro, every_no}
use Rattle.tables.specs.Given.{given}
use Rattle.chart_state_rules.specs.Values.{row_passes}
use Rattle.chart_state_rules.proofs.values_pass.Goals as goal

pub bit_at-runs-requires : goal.bit_at-runs-requires
unfolding timer_count
bit_at-runs-requires c = omega (arith, c.timer_count.ensures)

pub returns-then-not-value_passes : goal.returns-then-not-value_passes
unfolding timer_count
returns-then-not-value_passes c h k =
    let d = given c.args.t.now in
    let e = rw (c.bit_at-runs.ensures, c.at.ensures) at (c.value_passes.ensures h) in
    sym (every_no (row_passes d.scan_step d.presets c.args.running c.args.timers.now) (timer_count d) c.loop-i.i (omega arith) (cc))

pub loop-i-preserved : goal.loop-i-preserved
loop-i-preserved c h =
    let e = rw (c.bit_at-runs.ensures, c.at.ensures) at (c.value_passes.ensures h) in
    below_more _ _ (c.loop-i.invariant h) (cc)

pub returns : goal.returns
unfolding timer_count
returns c h k =
    let d = given c.args.t.now in
    sym (every_intro (row_passes d.scan_step d.presets c.args.running c.args.timers.now) (timer_count d) (λ j z. c.loop-i.invariant h j (omega arith)))
