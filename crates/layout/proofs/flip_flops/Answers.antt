-- Each group adds its width.
use Rattle.std.proofs.Common.{◌≡◌, ◌<◌, refl, ap, ◌∙◌, arith, add-one, get_or, length-take}
use Rattle.std.proofs.lemmas.List.{get_or-take}
use Rattle.meaning.specs.Layout.{width, group_width, group_first}
use Rattle.tables.specs.Given.{given}
use Rattle.layout.specs.LaidLaws.{few_subs, tally_width, width_small}
use Rattle.layout.proofs.flip_flops.Goals as goal

pub loop-n-init : goal.loop-n-init
unfolding group_first
loop-n-init c = (omega arith, refl)

pub overflow_add-many : goal.overflow_add-many
overflow_add-many c =
    let k = c.sub_states_each-counts in
    let a = c.loop-n.n-index in
    let n = c.laid_states.result in
    let h : a < n = omega (arith, length-take n k.result) in
    omega (arith, c.width-many.ensures ∙ ap width c.from.ensures ∙ ap width (get_or-take n k.result a 0 h), width_small (get_or k.result a 0) (few_subs (given c.args.t.now) k.ensures a (omega arith)))

pub loop-n-preserved : goal.loop-n-preserved
unfolding group_first
loop-n-preserved c =
    let d = given c.args.t.now in
    let k = c.sub_states_each-counts in
    let b = c.loop-n in
    let a = b.n-index in
    let n = c.laid_states in
    let h : a < n.result = omega (arith, length-take n.result k.result) in
    let v : c.width-many.result ≡ width (get_or k.result a 0) = c.width-many.ensures ∙ ap width c.from.ensures ∙ ap width (get_or-take n.result k.result a 0 h) in
    let e = n.ensures.2 in
    let w : c.width-many.result ≡ group_width d a = v ∙ ap (λ l. width (get_or l a 0)) k.ensures ∙ tally_width d a (omega arith) in (
      omega (arith, v, width_small (get_or k.result a 0) (few_subs d k.ensures a (omega arith))),
      rw (add-one a) (omega (arith, b.invariant.1, w)),
    )
