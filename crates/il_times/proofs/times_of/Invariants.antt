-- The rungs in the words from the place on, after those before it, are those in all of them.
use Rattle.std.proofs.Common.{◌≡◌, length, drop}
use Rattle.il_times.specs.Sizes.{rungs_in, no_rungs}
use Rattle.il_times.proofs.times_of.Given as goal

abbrev pub invariant-loop-w : goal.invariant-loop-w
invariant-loop-w l = record {
  long : length l.times ≡ 32;
  on : rungs_in (drop l.w-index l.words) (record { time = l.time; times = l.times }) ≡ rungs_in l.words no_rungs;
}
