-- No second answer of the pass over a list of words.
use Rattle.std.specs.Prelude.{List, ℕ}
use Rattle.meaning.specs.Once.{Once}
use Rattle.grammar_words.specs.Pass.{WordsPassed, passed_same}

pub words_pass_once : (ws : List ℕ) → Once (WordsPassed ws)
words_pass_once = passed_same
