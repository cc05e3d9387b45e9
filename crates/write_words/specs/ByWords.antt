-- The text of words, from their lines, and that it is the program's: who writes it gives an answer that Answers allows.
use Rattle.meaning.specs.Refusals.{Answer}
use Rattle.std.specs.Prelude.{◌≡◌, ℕ}
use mathlib.Core.List.{List, ◌++◌, flat_map}
use Rattle.meaning.specs.Programs.{instructions}
use Rattle.format.specs.Words.{words}
use Rattle.format.specs.Text.{bytes, line, declarations, text}
use Rattle.format.proofs.Laws.Passing.{program_instructions}
use Rattle.format.specs.TextWritten.{TextWritten}
use Rattle.grammar_words.specs.Pass.{Holds}
use Rattle.write_word_lines.specs.ByNumbers.{word_line, lines_same}
use Rattle.write_words.specs.Answers.{WordsWritten}

-- the text with d blocks and the words' lines
unfoldable pub words_text : ℕ → List ℕ → List ℕ
words_text d l = line (bytes "PROGRAM CHART") ++ (declarations d ++ (flat_map word_line l ++ line (bytes "END_PROGRAM")))

pub holds_text : {l : List ℕ} {d : ℕ} (h : Holds l d) → words_text d l ≡ text h.program
unfolding words_text text words
holds_text h = rw (← h.listing, ← h.blocks, lines_same (instructions h.program) (program_instructions h.program h.fitting))

pub words_written : {l out m : List ℕ} {r : Answer} {d : ℕ} → Holds l d → TextWritten (words_text d l) out r m → WordsWritten l out r m
words_written h w = WordsWritten.accepted h.program h.fitting h.listing (rw (holds_text h) at w)
