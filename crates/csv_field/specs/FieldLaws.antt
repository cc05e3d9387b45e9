-- Laws of Field.antt, case by case.
use Rattle.std.specs.Prelude.{◌≡◌, ℕ, ◌+◌, ◌*◌, ◌-◌, ◌≤◌, ◌<◌, Bool, true, false, cond}
use Rattle.std.proofs.Common.{arith}
use borrow.Author.Tests.{le-leb, lt-leb, ne_eqb}
use Rattle.csv_field.specs.declared.FieldPhase.TheVariants.{Minus, Number, Bad}
use Rattle.csv_field.specs.Field.{digit_added, field_begun, number_after, phase_after}

-- ---- a digit more

module _ (limit : ℕ) (q s : Bool) (n b : ℕ) where
  pub grown_low : b < 48 → digit_added limit q s n b ≡ Bad
  unfolding digit_added
  grown_low h = rw (lt-leb 48 b h)

  pub grown_high : 57 < b → digit_added limit q s n b ≡ Bad
  unfolding digit_added
  grown_high h = rw (le-leb 48 b (omega arith), lt-leb b 57 h)

  pub grown_past : 48 ≤ b → b ≤ 57 → limit < 10 * n + (b - 48) → digit_added limit q s n b ≡ Bad
  unfolding digit_added
  grown_past h g p = rw (le-leb 48 b h, le-leb b 57 g, lt-leb (10 * n + (b - 48)) limit p)

  pub grown_digit : 48 ≤ b → b ≤ 57 → 10 * n + (b - 48) ≤ limit → digit_added limit q s n b ≡ Number q s (10 * n + (b - 48))
  unfolding digit_added
  grown_digit h g p = rw (le-leb 48 b h, le-leb b 57 g, le-leb (10 * n + (b - 48)) limit p)

pub ruleset grown = (grown_low, grown_high, grown_past, grown_digit)

-- ---- a bare number

-- its first digit
pub digit_first : (most b : ℕ) → 48 ≤ b → b ≤ 57 → b - 48 ≤ most → field_begun most b ≡ Number false false (b - 48)
unfolding field_begun
digit_first most b h g p =
    let e : 10 * 0 + (b - 48) ≡ b - 48 = omega arith in
    rw (ne_eqb b 34 (λ z. omega arith), ne_eqb b 45 (λ z. omega arith)) (rw e at (grown_digit most false false 0 b h g (omega arith)))

-- the first digit after its minus: no 0
pub digit_minus : (most below b : ℕ) → 49 ≤ b → b ≤ 57 → b - 48 ≤ below → phase_after most below (Minus false) b ≡ Number false true (b - 48)
unfolding phase_after
digit_minus most below b h g p =
    let e : 10 * 0 + (b - 48) ≡ b - 48 = omega arith in
    rw (ne_eqb b 48 (λ z. omega arith)) (rw e at (grown_digit below false true 0 b (omega arith) g (omega arith)))

-- a digit after one that is no leading 0
pub digit_next : (most below : ℕ) (s : Bool) (n b : ℕ) → 48 ≤ b → b ≤ 57 → 0 < n → 10 * n + (b - 48) ≤ cond s below most → phase_after most below (Number false s n) b ≡ Number false s (10 * n + (b - 48))
unfolding phase_after number_after
digit_next most below s n b h g z p = rw (ne_eqb b 34 (λ y. omega arith), ne_eqb n 0 (λ y. omega arith)) (grown_digit (cond s below most) false s n b h g p)
