-- At the end no byte is left.
use Rattle.std.proofs.Common.{drop_of_length-le}
use Rattle.csv_records.specs.Automaton.{feed_all, emitted}
use Rattle.csv_records.proofs.feed.Goals as goal

pub returns : goal.returns
unfolding feed_all emitted
returns c =
    let t = c.loop-stand.invariant.turn in
    let e = drop_of_length-le c.args.bytes.now {i = c.loop-stand.stand.next} c.loop-stand-test.false in
    record { state = rw e at t.state; stored = rw e at t.stored }
