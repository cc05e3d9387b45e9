-- The reader took the words so far.
use Rattle.grammar_words.specs.Pass.{Took}
use Rattle.grammar_words.proofs.words_pass.Given as goal

abbrev pub invariant-loop-i : goal.invariant-loop-i
invariant-loop-i l = Took l.words l.i l.s
