-- No second answer of any function of this crate.
use Rattle.std.specs.Prelude.{◌≡◌, refl, ℕ, ◌≤◌, List, ◌++◌, Some, None}
use Rattle.std.proofs.Common.{sym, ap, ◌∙◌, arith}
use Rattle.meaning.specs.Once.{Once}
use Rattle.meaning.proofs.Laws.Rows.{same_test}
use Rattle.format.specs.Text.{decimal}
use Rattle.format.specs.Automata.Lines.{leading}
use Rattle.format.proofs.Laws.Decimals.{leading_all}
use Rattle.read_decimals.specs.Forms.{SameWord, Spells}
use Rattle.read_decimals.specs.FormLaws.{cut}

pub same_once : (s w : List ℕ) → Once (λ r. SameWord r w s)
same_once s w a b p q = same_test a b (λ e. q.1 (p.0 e)) (λ e. p.1 (q.0 e))

one_number : (head tail l : List ℕ) (n m : ℕ) → n ≤ 4294967295 → m ≤ 4294967295 → head ++ (decimal n ++ tail) ≡ l → head ++ (decimal m ++ tail) ≡ l → n ≡ m
one_number head tail l n m h k e f =
    let d : decimal n ≡ decimal m = (cut head tail l (decimal n) e).middle ∙ sym (cut head tail l (decimal m) f).middle in
    sym (leading_all n (omega arith)) ∙ ap (λ x. (leading 0 x).number) d ∙ leading_all m (omega arith)

-- a number of 32 bits is at most 4,294,967,295
pub numbered_once : (s head tail : List ℕ) (low high : ℕ) → high ≤ 4294967295 → Once (λ r. Spells head tail low high s r)
numbered_once s head tail low high h (Some n) (Some m) p q = ap Some (one_number head tail s n m (omega (arith, p.1)) (omega (arith, q.1)) p.2 q.2)
numbered_once s head tail low high h (Some n) None p q = absurd (q n p.0 p.1 p.2)
numbered_once s head tail low high h None (Some m) p q = absurd (p m q.0 q.1 q.2)
numbered_once s head tail low high h None None p q = refl
