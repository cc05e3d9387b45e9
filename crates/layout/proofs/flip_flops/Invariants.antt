-- The groups before the index are counted, with no more than eight flip-flops each.
use Rattle.std.proofs.Common.{◌≡◌, ◌≤◌, ◌*◌}
use Rattle.meaning.specs.Layout.{group_first}
use Rattle.tables.specs.Given.{given}
use Rattle.layout.proofs.flip_flops.Given as goal

abbrev pub invariant-loop-n : goal.invariant-loop-n
invariant-loop-n l = (l.many ≤ 8 * l.n-index) × (l.many ≡ group_first (given l.t) l.n-index)
