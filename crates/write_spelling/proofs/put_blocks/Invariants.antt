-- The lines of the blocks so far.
use mathlib.Core.List.{flat_map}
use Rattle.meaning.specs.Rows.{table}
use Rattle.format.specs.Text.{block_line}
use Rattle.write_lines.specs.Fit.{PutIfRoom}
use Rattle.write_spelling.proofs.put_blocks.Given as goal

abbrev pub invariant-loop-n : goal.invariant-loop-n
invariant-loop-n l = PutIfRoom l.initial.out l.at (flat_map block_line (table (λ k. k) 1 l.n)) l.out l.p
