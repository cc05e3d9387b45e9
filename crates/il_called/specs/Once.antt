-- No second answer of which block a word calls.
use Rattle.std.specs.Prelude.{◌≡◌, refl, ℕ, ◌<◌, MatchOption, IfSome, Some, None}
use Rattle.std.proofs.Common.{sym, ap, ◌∙◌, arith}
use Rattle.meaning.specs.Once.{Once}
use Rattle.format.specs.Decode.{Decoded, decoded}
use Rattle.il_called.specs.Due.{due}

pub instruction_due_once : (n : ℕ) (i : Decoded) → Once (λ r. MatchOption r (due n i ≡ n) (λ k. k ≡ due n i) × IfSome r (λ k. k < n))
instruction_due_once n i None None p q = refl
instruction_due_once n i None (Some k) p q = absurd (omega (arith, p.0, q.0, q.1))
instruction_due_once n i (Some k) None p q = absurd (omega (arith, p.0, q.0, p.1))
instruction_due_once n i (Some k) (Some j) p q = ap Some (p.0 ∙ sym q.0)

pub word_due_once : (n w : ℕ) → Once (λ r. MatchOption r (due n (decoded w) ≡ n) (λ k. k ≡ due n (decoded w)) × IfSome r (λ k. k < n))
word_due_once n w = instruction_due_once n (decoded w)
