-- The three tests, one after another.
use Rattle.std.proofs.Common.{arith, ◌≡◌, sym, ap, not, eqb, true, false}
use borrow.Author.Tests.{le-ltb, lt-ltb}
use mathlib.Core.Path.{◌∙◌}
use Rattle.meaning.specs.Hierarchy.{sub_state}
use Rattle.tables.proofs.ChartTables.sub_state.Goals as goal
use Rattle.tables.proofs.ChartTables.sub_state.Goals.{then-s-ne0, else-s-ne0}

pub returns-then-s-state_count : goal.returns-then-s-state_count
unfolding sub_state
returns-then-s-state_count c =
    elim c.if-s-ne0.branch [
      | then-s-ne0 w ↦ grind (arith, w.if-s-ne0.true, w.state_count.ensures, w.value-is, le-ltb, lt-ltb)
      | else-s-ne0 w ↦ let z : true ≡ false = sym c.if-s-state_count.true ∙ w.value-is ∙ ap (λ s. not (eqb s 0)) w.if-s-ne0.false in cc
    ]

pub returns-else-s-state_count : goal.returns-else-s-state_count
unfolding sub_state
returns-else-s-state_count c =
    elim c.if-s-ne0.branch [ then-s-ne0 w ↦ grind (arith, le-ltb, lt-ltb) | else-s-ne0 w ↦ grind (arith, le-ltb, lt-ltb) ]
