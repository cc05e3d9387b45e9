-- Each group stands after the one before it.
use Rattle.std.proofs.Common.{◌≡◌, refl, ap, ◌∙◌, arith, add-one, get_or}
use Rattle.meaning.specs.Layout.{width, group_width, group_first}
use Rattle.tables.specs.Given.{given}
use Rattle.layout.specs.Laid.{laid_states, row}
use Rattle.layout.specs.LaidLaws.{few_subs, tally_width, width_small, row_start, row_set}
use Rattle.layout.proofs.lay_out.Goals as goal

pub loop-a-init : goal.loop-a-init
unfolding group_first
loop-a-init c = let d = given c.args.t.now in (omega arith, row_start (group_first d), row_start (group_width d), refl)

pub overflow_cast-widths : goal.overflow_cast-widths
overflow_cast-widths c =
    let k = c.sub_states_each-counts in
    let a = c.loop-a.a in
    omega (arith, (c.width-w.ensures ∙ ap width c.from.ensures), width_small (get_or k.result a 0) (few_subs (given c.args.t.now) k.ensures a (omega arith)))

pub overflow_add-total : goal.overflow_add-total
overflow_add-total c =
    let k = c.sub_states_each-counts in
    let a = c.loop-a.a in
    omega (arith, (c.width-w.ensures ∙ ap width c.from.ensures), width_small (get_or k.result a 0) (few_subs (given c.args.t.now) k.ensures a (omega arith)))

pub loop-a-preserved : goal.loop-a-preserved
unfolding group_first
loop-a-preserved c =
    let d = given c.args.t.now in
    let k = c.sub_states_each-counts in
    let n = c.laid_states-a-end.ensures.2 in
    let b = c.loop-a in
    let i = b.invariant in
    let a = b.a in
    let w : c.width-w.result ≡ group_width d a = (c.width-w.ensures ∙ ap width c.from.ensures) ∙ ap (λ l. width (get_or l a 0)) k.ensures ∙ tally_width d a (omega arith) in (
      omega (arith, (c.width-w.ensures ∙ ap width c.from.ensures), width_small (get_or k.result a 0) (few_subs d k.ensures a (omega arith))),
      rw (add-one a, i.1, i.3) (row_set (group_first d) a (omega arith)),
      rw (add-one a, i.2, w) (row_set (group_width d) a (omega arith)),
      rw (add-one a) (omega (arith, i.3)),
    )

pub returns : goal.returns
returns c =
    let d = given c.args.t.now in
    let b = c.loop-a in
    let i = b.invariant in
    let n = c.laid_states-a-end.ensures.2 in
    let z : b.a ≡ laid_states d = omega arith in
    record {
      first = i.1 ∙ ap (row (group_first d)) z;
      width = i.2 ∙ ap (row (group_width d)) z;
      code = c.codes_of-code.ensures;
      total = i.3 ∙ ap (group_first d) z;
    }
