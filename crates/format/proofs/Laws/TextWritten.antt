-- A writer of text has no second answer.
use Rattle.meaning.specs.Refusals.{Answer}
use Rattle.std.specs.Prelude.{◌≡◌, List, ℕ}
use Rattle.std.proofs.Common.{sym, ◌∙◌}
use Rattle.format.specs.TextWritten.{TextWritten}

-- no second answer
pub text_written_same : {t l : List ℕ} {a b : Answer} {m n : List ℕ} → TextWritten t l a m → TextWritten t l b n → (a ≡ b) × (m ≡ n)
text_written_same x y = (x.answer ∙ sym y.answer, x.out ∙ sym y.out)
