-- The lines of the scans so far.
use Rattle.std.proofs.Common.{take}
use Rattle.write_lines.specs.Put.{BytesPut}
use Rattle.print_lines.specs.Results.{scan_lines_from}
use Rattle.print_lines.proofs.put_scans.Given as goal

abbrev pub invariant-loop-i : goal.invariant-loop-i
invariant-loop-i l = BytesPut l.initial.out l.at (scan_lines_from 1 (take l.i l.leaves) (take l.i l.outputs)) l.out l.p
