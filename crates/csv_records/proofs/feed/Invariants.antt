-- What the bytes so far come to, of a reader that began at 0.
use Rattle.std.proofs.Common.{length, ◌-◌}
use Rattle.csv_records.specs.Bare.{Went}
use Rattle.csv_records.proofs.feed.Given as goal

abbrev pub invariant-loop-stand : goal.invariant-loop-stand
invariant-loop-stand l = Went (record { next = 0; reader = l.fn.r }) l.bytes l.initial.out l.stand l.out

abbrev pub decreases-loop-stand : goal.decreases-loop-stand
decreases-loop-stand l = length l.bytes - l.stand.next
