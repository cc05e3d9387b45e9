-- One state more is one more of them, or none.
use Rattle.std.proofs.Common.{rules, arith, ap}
use Rattle.meaning.specs.Rows.{count}
use Rattle.meaning.specs.Hierarchy.{sub_state, sub_states}
use Rattle.tables.specs.Given.{given}
use native.Mathlib.Numerals.{add-one}
use mathlib.Core.Path.{◌≡◌, refl, ◌∙◌}
use Rattle.tables.proofs.ChartTables.sub_states.Goals as goal
use Rattle.tables.proofs.ChartTables.sub_states.Goals.{then-sub_state, else-sub_state}

pub loop-s-init : goal.loop-s-init
unfolding count
loop-s-init c = search rules

pub loop-s-preserved : goal.loop-s-preserved
unfolding count
loop-s-preserved c = (
  elim c.if-sub_state.branch [ then-sub_state w ↦ omega arith | else-sub_state w ↦ omega arith ],
  rw (add-one, ← c.sub_state.ensures)
      (elim c.if-sub_state.branch [
        | then-sub_state w ↦ rw w.if-sub_state.true (omega arith)
        | else-sub_state w ↦ rw w.if-sub_state.false (omega arith)
      ]),
)

pub returns : goal.returns
unfolding sub_states
returns c =
    let e : c.loop-s.s ≡ c.state_count-s-end.result = omega arith in
    c.loop-s.invariant.1 ∙ ap (count (sub_state (given c.args.self.now) c.args.a)) (e ∙ c.state_count-s-end.ensures)
