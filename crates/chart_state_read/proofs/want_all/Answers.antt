-- One super-state more has one code more, and it remembers n; a leaf has neither.
use Rattle.std.proofs.Common.{◌≡◌, refl, ap, sym, ◌∙◌, arith, ◌<◌, true, false, cond, get_or, set, add-one}
use Rattle.meaning.specs.Rows.{count}
use Rattle.meaning.specs.Tables.{Tables, state_count, initial}
use Rattle.meaning.specs.Hierarchy.{is_leaf}
use Rattle.meaning.specs.Lent.{super_states_below, lent_code}
use Rattle.tables.specs.Given.{given}
use Rattle.tables.specs.Same.{state_count_same, initial_same}
use Rattle.chart_state_read.specs.CodesLaws.{below_suc, leaf_at, super_at, wanted_more, unfound_more, unfound_rest, found_none}
use Rattle.chart_state_read.proofs.want_all.Goals as goal
use Rattle.chart_state_read.proofs.want_all.Goals.{then-initial-ne0, else-initial-ne0}

pub loop-a-init : goal.loop-a-init
unfolding super_states_below count
loop-a-init c = (omega arith, λ d e R p q z. (refl, λ j h f. absurd (omega arith), λ j h. absurd (omega arith), λ j h. z j))

pub loop-a-preserved : goal.loop-a-preserved
unfolding lent_code
loop-a-preserved c =
    let b = c.loop-a in
    let g = given c.args.t.now in
    let n = c.state_count-n.result in
    let l = c.args.state.now in
    let m : (d : Tables) → d.states ≡ g.states → n ≡ state_count d = λ d e. c.state_count-n.ensures ∙ sym (state_count_same d g e) in
    let h : (d : Tables) → d.states ≡ g.states → b.a < state_count d = λ d e. omega (arith, m d e) in
    let v : (d : Tables) → d.states ≡ g.states → c.initial.result ≡ initial d b.a = λ d e. c.initial.ensures ∙ sym (initial_same d g e b.a) in
    elim c.if-initial-ne0.branch [
      | then-initial-ne0 w ↦ (
        omega arith,
        λ d e R p q z.
            let i = b.invariant.1 d e R p q z in
            let f : is_leaf d b.a ≡ false = super_at d R b.a (h d e) (rw (v d e) at w.if-initial-ne0.true) in
            let x : w.at.result ≡ lent_code d l b.a = w.at.ensures ∙ ap (λ k. get_or l k 0) i.0 in
            let y : c.if-initial-ne0.wants ≡ set b.wants b.a (lent_code d l b.a) = w.wants-is ∙ w.put.ensures ∙ ap (set b.wants b.a) x in
            let k : c.if-initial-ne0.memory ≡ set b.memory b.a n = w.memory-is ∙ w.remember.ensures (omega (arith, m d e, R.size.few_states)) in (
              rw (add-one, below_suc d b.a, f) (omega (arith, i.0)),
              rw (add-one, y) (rw f at (wanted_more d b.a l b.wants (omega (arith, h d e)) i.1)),
              rw (add-one, k) (rw f at (unfound_more d b.a b.memory n (omega (arith, h d e)) i.2 i.3)),
              rw (add-one, k) (rw f at (unfound_rest d b.a b.memory n i.3)),
            ),
      )
      | else-initial-ne0 w ↦ (
        omega arith,
        λ d e R p q z.
            let i = b.invariant.1 d e R p q z in
            let f : is_leaf d b.a ≡ true = leaf_at d R b.a (h d e) (rw (v d e) at w.if-initial-ne0.false) in (
              rw (add-one, below_suc d b.a, f) (omega (arith, i.0)),
              rw (add-one, w.wants-is) (rw f at (wanted_more d b.a l b.wants (omega (arith, h d e)) i.1)),
              rw (add-one, w.memory-is) (rw f at (unfound_more d b.a b.memory n (omega (arith, h d e)) i.2 i.3)),
              rw (add-one, w.memory-is) (rw f at (unfound_rest d b.a b.memory n i.3)),
            ),
      )
    ]

pub returns : goal.returns
returns c d e R p q z =
    let b = c.loop-a in
    let i = b.invariant.1 d e R p q z in
    let n : c.state_count-n.result ≡ state_count d = c.state_count-n.ensures ∙ sym (state_count_same d (given c.args.t.now) e) in
    let k : b.a ≡ state_count d = omega arith in
    (i.0 ∙ ap (super_states_below d) k, λ j h f. i.1 j (omega arith) f, λ j h. i.2 j (omega arith) ∙ ap (cond (is_leaf d j) 0) n ∙ sym (found_none d R c.args.state.now j))
