-- What is no list of words is refused where the pass refuses it; else the text of its program is written.
use Rattle.std.proofs.Common.{◌≡◌, ℕ, Ok, Err, Result, sym, ap, ◌∙◌, refl, true, false}
use Rattle.std.specs.Result.{MatchResult, is_ok}
use Rattle.std.proofs.lemmas.Result.{err_from_is_err_and}
use Rattle.write_words.specs.Answers.{WordsWritten}
use Rattle.write_words.specs.ByWords.{words_written}
use Rattle.write_words.proofs.write_words.Goals as goal

ok_case : (s : Result ℕ ℕ) (P Q : ℕ → Type 0) → MatchResult s P Q → is_ok s ≡ true → (n : ℕ) × (s ≡ Ok n) × P n
ok_case (Ok n) P Q m v = (n, refl, m)
ok_case (Err k) P Q m v = cc

err_case : (s : Result ℕ ℕ) (P Q : ℕ → Type 0) → MatchResult s P Q → is_ok s ≡ false → (k : ℕ) × (s ≡ Err k) × Q k
err_case (Ok n) P Q m v = cc
err_case (Err k) P Q m v = (k, refl, m)

pub returns-in_err-d : goal.returns-in_err-d
returns-in_err-d c =
    let p = err_from_is_err_and c.from_residual.result c.from_residual.ensures.1 in
    let z = err_case c.words_pass.result _ _ c.in_err-d.ensures.cases (sym c.in_err-d.ensures.variant) in
    WordsWritten.refused z.0 (rw z.1 at c.words_pass.ensures) (p.1 ∙ ap Err (p.2 ∙ z.2)) refl

pub returns : goal.returns
returns c =
    let z = ok_case c.words_pass.result _ _ c.in_ok-d.ensures.cases (sym c.in_ok-d.ensures.variant) in
    let e : c.words_pass.result ≡ Ok c.in_ok-d.d = cc in
    words_written (rw e at c.words_pass.ensures) c.write_text.ensures
