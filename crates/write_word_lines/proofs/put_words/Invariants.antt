-- The lines of the words so far.
use lib.ListN.{take}
use mathlib.Core.List.{flat_map}
use Rattle.write_lines.specs.Fit.{PutIfRoom}
use Rattle.write_word_lines.specs.ByNumbers.{word_line}
use Rattle.write_word_lines.proofs.put_words.Given as goal

abbrev pub invariant-loop-w : goal.invariant-loop-w
invariant-loop-w l = PutIfRoom l.initial.out l.at (flat_map word_line (take l.w-index l.words)) l.out l.p
