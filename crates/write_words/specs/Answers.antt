-- What the writer of text from words answers, and that it has no second answer.
use Rattle.meaning.specs.Refusals.{Answer}
use Rattle.std.specs.Prelude.{◌≡◌, ℕ, true, List, Err}
use Rattle.std.proofs.Common.{sym, ◌∙◌}
use Rattle.meaning.specs.Programs.{Program, program_fits}
use Rattle.meaning.specs.declared.Refusal.TheVariants.{Text}
use Rattle.format.specs.Words.{words, AcceptedWords}
use Rattle.format.specs.Text.{text}
use Rattle.format.specs.Places.{WordPlace}
use Rattle.format.proofs.Laws.Words.{words_same, place_same}
use Rattle.format.specs.TextWritten.{TextWritten}
use Rattle.format.proofs.Laws.TextWritten.{text_written_same}

-- the text of the program that the words l are; "A refusal writes nothing."
pub data WordsWritten (l out : List ℕ) (r : Answer) (m : List ℕ) : Type 0 where
  accepted : (p : Program) → program_fits p ≡ true → words p ≡ l → TextWritten (text p) out r m → WordsWritten l out r m
  refused : (k : ℕ) → WordPlace l k → r ≡ Err (Text k) → m ≡ out → WordsWritten l out r m

-- ---- no second answer

pub words_written_same : {l out : List ℕ} {r q : Answer} {m n : List ℕ} → WordsWritten l out r m → WordsWritten l out q n → (r ≡ q) × (m ≡ n)
words_written_same (WordsWritten.accepted p f e w) (WordsWritten.accepted s g d v) = text_written_same w (rw (words_same s p g f (d ∙ sym e)) at v)
words_written_same (WordsWritten.accepted p f e w) (WordsWritten.refused k h q n) = absurd (h.refused (p, f, e))
words_written_same (WordsWritten.refused k h r m) (WordsWritten.accepted s g d v) = absurd (h.refused (s, g, d))
words_written_same {l} (WordsWritten.refused k h r m) (WordsWritten.refused j i q n) = let e = place_same AcceptedWords _ l k j h i in (cc, cc)
