-- The head, the lines of the words and the last line, in a row.
use Rattle.write_words.specs.ByWords.{words_text}
use Rattle.write_lines.specs.Fit.{fit_fit}
use mathlib.Core.List.{append_assoc}
use Rattle.format.specs.Text.{bytes, line}
use Rattle.write_words.proofs.put_text.Goals as goal

pub returns : goal.returns
unfolding words_text
returns c = rw (← append_assoc (line (bytes "PROGRAM CHART"))) (fit_fit c.put_head-p.ensures (fit_fit c.put_words-q.ensures c.put_end.ensures))
