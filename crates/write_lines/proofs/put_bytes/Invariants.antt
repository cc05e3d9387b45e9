-- The bytes so far are put.
use lib.ListN.{take}
use Rattle.write_lines.specs.Put.{BytesPut}
use Rattle.write_lines.proofs.put_bytes.Given as goal

abbrev pub invariant-loop-b : goal.invariant-loop-b
invariant-loop-b l = BytesPut l.initial.out l.at (take l.b-index l.word) l.out l.p
