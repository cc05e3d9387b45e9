-- The scan from where it stands on leads to the scan's end.
use Rattle.std.proofs.Common.{◌≡◌, drop}
use Rattle.il_scan.specs.Run.{whole_scan}
use Rattle.il_scan.specs.Row.{scan_of}
use Rattle.il_scan.proofs.scan.Given as goal

abbrev pub invariant-loop-w : goal.invariant-loop-w
invariant-loop-w l =
    whole_scan l.step l.x (drop l.w-index l.words) (record { s = l.s; flip_flops = l.flip_flops; bs = l.blocks }) ≡ scan_of l.step l.x l.words l.initial.flip_flops l.initial.blocks
