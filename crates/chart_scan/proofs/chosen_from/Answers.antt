-- A move of the list holds by its words where its literals hold; with none left none holds.
use Rattle.std.proofs.Common.{◌≡◌, refl, ap, sym, ◌∙◌, true, false, suc, ◌-◌, arith}
use Rattle.meaning.specs.Tables.{move_count}
use Rattle.meaning.specs.Literals.{literals_hold}
use Rattle.check_needs.specs.Words.{hold_words}
use Rattle.chart_scan.specs.Choice.{read, last_holding}
use Rattle.chart_scan.specs.LinkLaws.{last_le, last_source, next_link, holding_skip, holding_yes, holding_no}
use Rattle.chart_scan.proofs.chosen_from.Goals as goal

pub loop-j-init : goal.loop-j-init
loop-j-init c = (
  omega (arith, c.from-j.ensures, c.at.type_inv),
  λ c' R L A h k g.
      let s = c.args.s in
      let e = c.from-j.ensures ∙ c.at.ensures ∙ L.0 s k in (
        holding_skip c' _ s (move_count c') ∙ ap (last_holding c' _ s) (sym e),
        λ i z. (omega (arith, e, z, last_le c' s (move_count c')), last_source c' s (move_count c') i (sym e ∙ z)),
      ),
)

pub returns-then-hold : goal.returns-then-hold
returns-then-hold c c' R L A h k g =
    let a = c.args in
    let b = c.loop-j in
    let r = b.invariant.1 c' R L A h k g in
    let z : b.j ≡ suc (b.j - 1) = omega arith in
    let q = r.1 (b.j - 1) z in
    let t : literals_hold c' (read a.on) (b.j - 1) ≡ true = sym (A (b.j - 1) a.on q.0 g) ∙ sym (c.hold.ensures ∙ ap (λ n. hold_words n a.on) (c.needs_at.ensures.0 (omega (arith, h, q.0, R.size.few_moves)))) ∙ c.if-hold.true in
    sym (r.0 ∙ ap (last_holding c' (read a.on) a.s) z ∙ holding_yes c' (read a.on) a.s (b.j - 1) q.1 t)

pub returns-then-j-next : goal.returns-then-j-next
returns-then-j-next c c' R L A h k g =
    let a = c.args in
    let b = c.loop-j in
    let r = b.invariant.1 c' R L A h k g in
    let z : b.j ≡ suc (b.j - 1) = omega arith in
    let q = r.1 (b.j - 1) z in
    let e = c.from-next.ensures ∙ c.at-in-loop-j.ensures ∙ next_link c' (move_count c') a.links.now L a.s (b.j - 1) q.0 q.1 in
    absurd (omega (arith, c.if-j-next.true, e, last_le c' a.s (b.j - 1), z))

pub loop-j-preserved : goal.loop-j-preserved
loop-j-preserved c =
    let a = c.args in
    let b = c.loop-j in (
      omega (arith, c.from-next.ensures, c.at-in-loop-j.type_inv),
      λ c' R L A h k g.
          let v = read a.on in
          let r = b.invariant.1 c' R L A h k g in
          let z : b.j ≡ suc (b.j - 1) = omega arith in
          let q = r.1 (b.j - 1) z in
          let t : literals_hold c' v (b.j - 1) ≡ false = sym (A (b.j - 1) a.on q.0 g) ∙ sym (c.hold.ensures ∙ ap (λ n. hold_words n a.on) (c.needs_at.ensures.0 (omega (arith, h, q.0, R.size.few_moves)))) ∙ c.if-hold.false in
          let e = c.from-next.ensures ∙ c.at-in-loop-j.ensures ∙ next_link c' (move_count c') a.links.now L a.s (b.j - 1) q.0 q.1 in (
            r.0 ∙ ap (last_holding c' v a.s) z ∙ holding_no c' v a.s (b.j - 1) q.1 t ∙ ap (last_holding c' v a.s) (sym e),
            λ i y. (omega (arith, e, y, last_le c' a.s (b.j - 1), q.0), last_source c' a.s (b.j - 1) i (sym e ∙ y)),
          ),
    )

pub returns : goal.returns
returns c c' R L A h k g =
    let b = c.loop-j in
    let z : b.j ≡ 0 = omega arith in
    let r = b.invariant.1 c' R L A h k g in
    sym (r.0 ∙ ap (last_holding c' (read c.args.on) c.args.s) z ∙ unfold last_holding in refl)
