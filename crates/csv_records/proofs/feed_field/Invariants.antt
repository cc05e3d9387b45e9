-- What the bytes fed so far come to.
use Rattle.csv_records.specs.Bare.{Went}
use Rattle.csv_records.proofs.feed_field.Given as goal

abbrev pub invariant-loop-i : goal.invariant-loop-i
invariant-loop-i l = Went l.fn.from l.bytes l.initial.out (record { next = l.i; reader = l.s }) l.out
