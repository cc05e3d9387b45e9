-- The parts of the text, one after the other.
use mathlib.Core.Path.{sym, ◌∙◌}
use Rattle.layout.specs.LaidLaws.{total_is}
use Rattle.tables.specs.Given.{given}
use Rattle.tables.specs.Same.{timer_count_same}
use Rattle.write_bits.specs.Sent.{LaidTables}
use Rattle.write_text.specs.TextLaws.{text_put}
use Rattle.write_text.proofs.put_text.Goals as goal

pub returns : goal.returns
returns c g r o =
    let t = c.args.t.now in
    let e = r.lent in
    let d : LaidTables g c.args.layout.now = record { laid = o; rules = r.rules } in
    text_put g t.chart.outputs _ r.outputs (timer_count_same g (given t) e.presets ∙ sym c.timer_count.ensures)
    c.put_head-head.ensures
    (c.put_timers-timers.ensures g e.states d e.presets e.timer_pairs)
    (c.put_moves-rungs.ensures g e.states d e.moves)
    (c.put_copies-copies.ensures g r.rules (total_is g _ o r.rules.size.few_states))
    (c.put_outputs-end.ensures g e.states d e.output_pairs r.outputs)
    c.put_end.ensures
