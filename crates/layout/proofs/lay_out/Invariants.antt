-- The groups below a are laid out, with no more than eight flip-flops each.
use Rattle.std.proofs.Common.{◌≡◌, ◌≤◌, ◌*◌}
use Rattle.meaning.specs.Layout.{group_width, group_first}
use Rattle.tables.specs.Given.{given}
use Rattle.layout.specs.Laid.{row}
use Rattle.layout.proofs.lay_out.Given as goal

abbrev pub invariant-loop-a : goal.invariant-loop-a
invariant-loop-a l =
    (l.total ≤ 8 * l.a) × (l.first ≡ row (group_first (given l.t)) l.a) × (l.widths ≡ row (group_width (given l.t)) l.a)
    × (l.total ≡ group_first (given l.t) l.a)
