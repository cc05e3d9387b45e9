-- Laws of Numbers.antt.
use Rattle.std.specs.Prelude.{◌≡◌, ◌||◌, ℕ, ◌-◌, ◌^◌, ◌≤◌, eqb}
use Rattle.std.proofs.Common.{ap, ◌∙◌, le-leb}
use Rattle.std.specs.Int.Bits.{bit_or}
use Rattle.meaning.specs.Literals.{input_on}
use Rattle.meaning.proofs.Laws.Bits.{number_bit}
use Rattle.slices.specs.Numbers.{with_number}

-- a number that a word has a bit for
pub number_within : (w n : ℕ) → 1 ≤ n → n ≤ 64 → with_number w n ≡ bit_or w (2 ^ (n - 1))
unfolding with_number
number_within w n h k = rw (le-leb 1 n h, le-leb n 64 k)

-- which numbers the word r has, where n was put into w
pub numbered : (r w n m : ℕ) → r ≡ with_number w n → 1 ≤ n → n ≤ 64 → 1 ≤ m → input_on r m ≡ (input_on w m || eqb n m)
numbered r w n m e h k g = ap (λ v. input_on v m) (e ∙ number_within w n h k) ∙ number_bit w n m h g
