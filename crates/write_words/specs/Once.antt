-- No second answer of the writer of text from words.
use Rattle.meaning.specs.Refusals.{Answer}
use Rattle.std.specs.Prelude.{List, ℕ}
use Rattle.meaning.specs.Once.{Once}
use Rattle.meaning.proofs.Laws.Once.{two}
use Rattle.write_words.specs.Answers.{WordsWritten, words_written_same}

pub write_words_once : (ws out : List ℕ) → Once {A = Answer × List ℕ} (λ (r, m). WordsWritten ws out r m)
write_words_once ws out x y p q = two (words_written_same p q)
