-- The group of the state, as it is laid out, gives the code that is looked for.
use mathlib.Core.Path.{◌≡◌, sym, ap, ◌∙◌}
use native.Mathlib.Omega.{arith}
use Rattle.meaning.specs.Rows.{least}
use Rattle.meaning.specs.Tables.{state_count}
use Rattle.meaning.specs.Layout.{group_first, group_width}
use Rattle.meaning.specs.Lent.{coded}
use Rattle.meaning.specs.Stands.{code_at, coded_sub_state}
use Rattle.layout.specs.LaidLaws.{first_at, width_at}
use Rattle.layout.specs.SameLaws.{sub_with_code_same}
use Rattle.tables.specs.Given.{given}
use Rattle.roundtrip_leaf.specs.ShownLaws.{group_narrow}
use Rattle.roundtrip_leaf.proofs.shown_sub_state.Goals as goal

pub returns-then-a-ge-STATES : goal.returns-then-a-ge-STATES
returns-then-a-ge-STATES c c' e R o h = absurd (omega (arith, R.size.few_states))

pub returns : goal.returns
unfolding coded_sub_state
returns c c' e R o h =
    let a = c.args in
    let f = first_at c' a.layout.now o R.size.few_states a.a h in
    let w = width_at c' a.layout.now o R.size.few_states a.a h in
    let k : c.code_at-code.result ≡ code_at a.flip_flops.now (group_first c' a.a) (group_width c' a.a) =
    rw (f, w) at (c.code_at-code.ensures (rw w (group_narrow c' R a.a))) in
    c.sub_with_code.ensures ∙ sym (sub_with_code_same c' (given a.t.now) e a.a c.code_at-code.result) ∙ ap (λ n. least (coded c' a.a n) 0 (state_count c')) k
