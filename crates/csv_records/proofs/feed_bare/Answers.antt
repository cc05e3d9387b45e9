-- One field more: its turn after those so far.
use Rattle.std.proofs.Common.{rules, arith, ◌≤◌, length}
use Rattle.csv_field.specs.Field.{most64}
use Rattle.csv_records.specs.BareLaws.{turn_then}
use Rattle.csv_records.proofs.feed_bare.Goals as goal

pub loop-u-preserved : goal.loop-u-preserved
loop-u-preserved c =
    let t = c.in-Some.ensures in
    let l : length c.loop-u.out ≤ most64 = search rules in
    record {
      on = omega (arith, t.on, c.loop-u.invariant.on);
      inside = omega (arith, t.inside);
      turn = rw (c.store-s.ensures.state, c.store-s.ensures.stored) (turn_then c.loop-u.invariant.turn (t.turn c.loop-u.out l));
    }
