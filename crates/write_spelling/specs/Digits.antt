-- The digits of a number of a few, each by its own division.
use Rattle.std.specs.Prelude.{◌≡◌, List, [], ◌∷◌, ◌++◌, ℕ, ◌+◌, ◌/◌, ◌%◌, ◌≤◌, ◌<◌}
use Rattle.std.proofs.Common.{ap, ◌∙◌, arith}
use Rattle.format.specs.Text.{decimal}
use Rattle.format.proofs.Laws.Decimals.{decimal_small, decimal_last}

pub one_digit : (n : ℕ) → n < 10 → decimal n ≡ (48 + n % 10) ∷ []
one_digit n h = let e : n % 10 ≡ n = omega arith in rw e (decimal_small n h)

-- the digits of the tens, and the last
last_digit : (n : ℕ) (ds : List ℕ) → 10 ≤ n → n < 100000 → decimal (n / 10) ≡ ds → decimal n ≡ ds ++ ((48 + n % 10) ∷ [])
last_digit n ds h k e = decimal_last n h (omega arith) ∙ ap (λ l. l ++ ((48 + n % 10) ∷ [])) e

pub two_digits : (n : ℕ) → 10 ≤ n → n < 100 → decimal n ≡ (48 + n / 10 % 10) ∷ (48 + n % 10) ∷ []
two_digits n h k = last_digit n _ h (omega arith) (one_digit (n / 10) (omega arith))

pub three_digits : (n : ℕ) → 100 ≤ n → n < 1000 → decimal n ≡ (48 + n / 100 % 10) ∷ (48 + n / 10 % 10) ∷ (48 + n % 10) ∷ []
three_digits n h k =
    let e : n / 10 / 10 ≡ n / 100 = omega arith in
    rw (← e) (last_digit n _ (omega arith) (omega arith) (two_digits (n / 10) (omega arith) (omega arith)))

pub four_digits : (n : ℕ) → 1000 ≤ n → n < 10000 → decimal n ≡ (48 + n / 1000 % 10) ∷ (48 + n / 100 % 10) ∷ (48 + n / 10 % 10) ∷ (48 + n % 10) ∷ []
four_digits n h k =
    let e : n / 10 / 100 ≡ n / 1000 = omega arith in
    let f : n / 10 / 10 ≡ n / 100 = omega arith in
    rw (← e, ← f) (last_digit n _ (omega arith) (omega arith) (three_digits (n / 10) (omega arith) (omega arith)))

pub five_digits : (n : ℕ) → 10000 ≤ n → n < 100000
    → decimal n ≡ (48 + n / 1000 / 10 % 10) ∷ (48 + n / 1000 % 10) ∷ (48 + n / 100 % 10) ∷ (48 + n / 10 % 10) ∷ (48 + n % 10) ∷ []
five_digits n h k =
    let d : n / 10 / 1000 ≡ n / 1000 / 10 = omega arith in
    let e : n / 10 / 100 ≡ n / 1000 = omega arith in
    let f : n / 10 / 10 ≡ n / 100 = omega arith in
    rw (← d, ← e, ← f) (last_digit n _ (omega arith) (omega arith) (four_digits (n / 10) (omega arith) (omega arith)))

pub ruleset few_digits = (one_digit, two_digits, three_digits, four_digits, five_digits)
