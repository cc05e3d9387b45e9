-- No state below s has the code, and the others below s are counted.
use Rattle.std.proofs.Common.{◌≡◌, ℕ, ◌≤◌, ◌<◌, false}
use Rattle.meaning.specs.Rows.{count}
use Rattle.meaning.specs.Layout.{other_sub_state}
use Rattle.meaning.specs.Lent.{coded}
use Rattle.tables.specs.Given.{given}
use Rattle.layout.proofs.sub_with_code.Given as goal

abbrev pub invariant-loop-s : goal.invariant-loop-s
invariant-loop-s l =
    (l.others ≤ l.s) × (l.others ≡ count (other_sub_state (given l.t) l.a) l.s) × ((j : ℕ) → j < l.s → coded (given l.t) l.a l.k j ≡ false)
