-- The words from where the scan stands on lead to where those from its first place on lead; and it stands within the
-- words, or at that place.
use Rattle.std.proofs.Common.{◌≡◌, ◌≤◌, length, drop, max}
use Rattle.il_scan.specs.Run.{advanced}
use Rattle.il_scan.proofs.advance.Given as goal

abbrev pub invariant-loop-i : goal.invariant-loop-i
invariant-loop-i l = record {
  same : advanced l.x l.count (drop l.i l.words) l.i l.s l.flip_flops
      ≡ advanced l.x l.count (drop l.fn.p.at l.words) l.fn.p.at l.fn.p.running l.initial.flip_flops;
  within : l.i ≤ max (length l.words) l.fn.p.at;
}
