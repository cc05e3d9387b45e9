-- A state with an initial sub-state is one super-state more.
use Rattle.std.proofs.Common.{◌≡◌, ◌<◌, refl, ap, sym, ◌∙◌, arith, add-one}
use Rattle.meaning.specs.Rows.{count}
use Rattle.meaning.specs.Tables.{Tables, state_count, initial}
use Rattle.meaning.specs.Rules.{Rules}
use Rattle.meaning.specs.Lent.{super_states_below}
use Rattle.tables.specs.Given.{given}
use Rattle.tables.specs.Same.{initial_same}
use Rattle.chart_state_read.specs.CodesLaws.{below_suc, leaf_at, super_at}
use Rattle.chart_state_read.proofs.super_states.Goals as goal
use Rattle.chart_state_read.proofs.super_states.Goals.{then-initial-ne0, else-initial-ne0}

pub loop-a-init : goal.loop-a-init
unfolding super_states_below count
loop-a-init c = (omega arith, λ d e R. refl)

pub loop-a-preserved : goal.loop-a-preserved
loop-a-preserved c =
    let b = c.loop-a in
    let g = given c.args.t.now in
    let h : (d : Tables) → d.states ≡ g.states → Rules d → b.a < state_count d = λ d e R. omega (arith, c.state_count-a-end.ensures.1 d e R) in
    let z : (d : Tables) → d.states ≡ g.states → c.initial.result ≡ initial d b.a = λ d e. c.initial.ensures ∙ sym (initial_same d g e b.a) in
    elim c.if-initial-ne0.branch [
      | then-initial-ne0 w ↦ (
        omega arith,
        λ d e R. rw (add-one, below_suc d b.a, super_at d R b.a (h d e R) (rw (z d e) at w.if-initial-ne0.true)) (omega (arith, b.invariant.1 d e R)),
      )
      | else-initial-ne0 w ↦ (
        omega arith,
        λ d e R. rw (add-one, below_suc d b.a, leaf_at d R b.a (h d e R) (rw (z d e) at w.if-initial-ne0.false)) (omega (arith, b.invariant.1 d e R)),
      )
    ]

pub returns : goal.returns
returns c =
    let b = c.loop-a in
    let n = c.state_count-a-end.ensures in (
      omega (arith, n),
      λ d e R. let k : b.a ≡ state_count d = omega (arith, n.1 d e R) in b.invariant.1 d e R ∙ ap (super_states_below d) k,
    )
