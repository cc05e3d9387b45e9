-- The most of the words so far and of the rest is the most of all.
use Rattle.std.proofs.Common.{◌≡◌, drop, max}
use Rattle.il_sizes.specs.Bytes.{bytes_named}
use Rattle.il_sizes.proofs.flip_flop_bytes.Given as goal

abbrev pub invariant-loop-w : goal.invariant-loop-w
invariant-loop-w l = max l.most (bytes_named (drop l.w-index l.words)) ≡ bytes_named l.words
