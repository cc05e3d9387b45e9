-- What the fields taken so far come to.
use Rattle.std.proofs.Common.{length, ◌-◌}
use Rattle.csv_records.specs.Bare.{Went}
use Rattle.csv_records.proofs.feed_bare.Given as goal

abbrev pub invariant-loop-u : goal.invariant-loop-u
invariant-loop-u l = Went l.fn.from l.bytes l.initial.out (record { next = l.i; reader = l.s }) l.out

abbrev pub decreases-loop-u : goal.decreases-loop-u
decreases-loop-u l = length l.bytes - l.i
