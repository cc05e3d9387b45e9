-- The rungs of the first b flip-flops are written.
use mathlib.Core.Path.{◌≡◌}
use Rattle.write_lines.specs.Fit.{PutIfRoom}
use Rattle.write_bits.specs.Sent.{lines}
use Rattle.meaning.specs.Tables.{Tables}
use Rattle.meaning.specs.Layout.{flip_flop_count}
use Rattle.meaning.specs.Rules.{Rules}
use Rattle.write_rungs.specs.Sections.{copies_to}
use Rattle.write_rungs.proofs.put_copies.Given as goal

abbrev pub invariant-loop-b : goal.invariant-loop-b
invariant-loop-b l = (c : Tables) → Rules c → l.total ≡ flip_flop_count c → PutIfRoom l.initial.out l.at (lines (copies_to c l.b)) l.out l.p
