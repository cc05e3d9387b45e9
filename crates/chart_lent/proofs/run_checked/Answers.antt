-- Any tables with these states and moves have no more of either.
use Rattle.std.proofs.Common.{arith}
use Rattle.tables.specs.Given.{given}
use Rattle.tables.specs.Same.{state_count_same, move_count_same}
use Rattle.chart_lent.proofs.run_checked.Goals as goal

pub returns-then-move_count-le-SMALL : goal.returns-then-move_count-le-SMALL
returns-then-move_count-le-SMALL c d G R =
    let g = given c.args.t.now in
    c.run_in.ensures d G R (omega (arith, state_count_same d g G.lent.states)) (omega (arith, move_count_same d g G.lent.moves))
