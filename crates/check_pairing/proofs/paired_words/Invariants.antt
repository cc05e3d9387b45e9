-- The states below s are done.
use Rattle.std.proofs.Common.{◌≡◌, ◌≤◌, length}
use Rattle.meaning.specs.Tables.{state_count}
use Rattle.tables.specs.Given.{given}
use Rattle.check_pairing.specs.Words.{Tree, Own, Upto}
use Rattle.check_pairing.proofs.paired_words.Given as goal

abbrev pub invariant-loop-s : goal.invariant-loop-s
invariant-loop-s l = (length l.words ≡ length l.initial.words)
    × (Tree (given l.t) → state_count (given l.t) ≤ length l.initial.words → Own l.pairs l.initial.words → Upto (given l.t) l.pairs l.words l.s)
