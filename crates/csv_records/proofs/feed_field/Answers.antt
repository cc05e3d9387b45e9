-- One byte more: its turn after those so far.
use Rattle.std.proofs.Common.{rules, arith, ◌≤◌, length}
use Rattle.csv_field.specs.Field.{most64}
use Rattle.csv_records.specs.BareLaws.{turn_then, turn}
use Rattle.csv_records.proofs.feed_field.Goals as goal

pub returns-then-is_begin : goal.returns-then-is_begin
returns-then-is_begin c =
    let l : length c.loop-i.out ≤ most64 = search rules in
    record {
      went = record {
        on = omega (arith, c.loop-i.invariant.on);
        inside = omega arith;
        turn = turn_then c.loop-i.invariant.turn (turn _ _ c.args.bytes.now _ _ _ (omega arith) l c.feed_byte-s.ensures);
      };
      further = omega (arith, c.loop-i.invariant.on);
    }

pub loop-i-preserved : goal.loop-i-preserved
loop-i-preserved c =
    let l : length c.loop-i.out ≤ most64 = search rules in
    record {
      on = omega (arith, c.loop-i.invariant.on);
      inside = omega arith;
      turn = turn_then c.loop-i.invariant.turn (turn _ _ c.args.bytes.now _ _ _ (omega arith) l c.feed_byte-s.ensures);
    }
