-- The move is entered, and then the path is followed anew.
use Rattle.std.proofs.Common.{◌∙◌}
use Rattle.chart_paths.specs.WalkLaws.{walk_active}
use Rattle.chart_scan.proofs.leaf_after.Goals as goal

pub returns : goal.returns
returns c c' e f R lm le = rw c.in-Some.is (c.enter.ensures c' e f R lm, λ S. c.active_leaf.ensures ∙ walk_active c' R c.enter.new.memory S)
