-- A super-state is one code more, and a leaf is none.
use Rattle.std.proofs.Common.{◌≡◌, ◌<◌, refl, ap, sym, ◌∙◌, arith, length, take, [], ◌∷◌, ◌++◌, get_or, true, false, add-one, append-nil}
use lib.Seq.{take-suc-set}
use Rattle.meaning.specs.Rows.{count}
use Rattle.meaning.specs.Tables.{Tables, state_count, initial}
use Rattle.meaning.specs.Rules.{Rules}
use Rattle.meaning.specs.Hierarchy.{is_leaf}
use Rattle.meaning.specs.Machine.{remembered}
use Rattle.meaning.specs.Lent.{super_states_below}
use Rattle.tables.specs.Given.{given}
use Rattle.tables.specs.Same.{initial_same}
use Rattle.chart_state_read.specs.Codes.{codes_in}
use Rattle.chart_state_read.specs.CodesLaws.{below_suc, code_room, leaf_at, super_at}
use Rattle.chart_state_write.proofs.write_codes.Goals as goal
use Rattle.chart_state_write.proofs.write_codes.Goals.{then-initial-ne0, else-initial-ne0}

pub loop-a-init : goal.loop-a-init
unfolding super_states_below count codes_in
loop-a-init c = (omega arith, λ d e R h. (refl, refl))

pub loop-a-preserved : goal.loop-a-preserved
unfolding codes_in
loop-a-preserved c =
    let b = c.loop-a in
    let g = given c.args.t.now in
    let k : (d : Tables) → d.states ≡ g.states → Rules d → b.a < state_count d = λ d e R. omega (arith, c.state_count-a-end.ensures.1 d e R) in
    let z : (d : Tables) → d.states ≡ g.states → c.initial.result ≡ initial d b.a = λ d e. c.initial.ensures ∙ sym (initial_same d g e b.a) in
    elim c.if-initial-ne0.branch [
      | then-initial-ne0 w ↦ (
        omega arith,
        λ d e R h.
            let i = b.invariant.1 d e R h in
            let f : is_leaf d b.a ≡ false = super_at d R b.a (k d e R) (rw (z d e) at w.if-initial-ne0.true) in
            let room : b.at < length b.state = omega (arith, i.0, h, code_room d R b.a (k d e R) f) in
            let v : w.from.result ≡ get_or c.args.codes.now (remembered c.args.memory.now b.a) 0 = w.from.ensures ∙ w.at-code.ensures ∙ ap (λ x. get_or c.args.codes.now x 0) w.remembered.ensures in
            let s : take c.if-initial-ne0.at c.if-initial-ne0.state ≡ take b.at b.state ++ (w.from.result ∷ []) = rw (w.at-is, w.state-is, w.put.ensures, add-one) (take-suc-set b.state b.at w.from.result room) in (
              rw (add-one, below_suc d b.a, f) (omega (arith, i.0)),
              rw (add-one, f, ← v, ← i.1) s,
            ),
      )
      | else-initial-ne0 w ↦ (
        omega arith,
        λ d e R h.
            let i = b.invariant.1 d e R h in
            let f : is_leaf d b.a ≡ true = leaf_at d R b.a (k d e R) (rw (z d e) at w.if-initial-ne0.false) in (
              rw (add-one, below_suc d b.a, f) (omega (arith, i.0)),
              rw (add-one, f, w.at-is, w.state-is, ← i.1) (sym (append-nil (take b.at b.state))),
            ),
      )
    ]

pub returns : goal.returns
returns c =
    let b = c.loop-a in
    let n = c.state_count-a-end.ensures in (
      omega (arith, n),
      λ d e R h. let z : b.a ≡ state_count d = omega (arith, n.1 d e R) in rw z at (b.invariant.1 d e R h),
    )
