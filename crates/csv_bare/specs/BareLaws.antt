-- Laws of the digits of Bare.antt at a place among the bytes.
use Rattle.std.specs.Prelude.{◌≡◌, true, false, List, [], ◌∷◌, ℕ, ◌+◌, ◌*◌, ◌-◌, ◌/◌, ◌≤◌, ◌<◌, length, drop, get_or, leb, ltb}
use Rattle.std.proofs.Math.Numerals.{add-one}
use Rattle.std.proofs.Common.{inl, inr, arith, drop_of_length-le, drop-cons}
use Rattle.std.proofs.Math.Bool.{and-false}
use borrow.Author.Tests.{lt-ltb, le-ltb, lt-leb, le-leb}
use Rattle.meaning.proofs.Laws.Rows.{which}
use Rattle.csv_bare.specs.Bare.{run, takes_digit, digits_from}

-- the run ends at its first byte or after it
pub digits_reach : (limit : ℕ) (l : List ℕ) (i n : ℕ) → i ≤ (digits_from limit l i n).end
unfolding digits_from
digits_reach limit [] i n = omega arith
digits_reach limit (b ∷ l) i n = elim (which (takes_digit limit n b)) [
  | inl e ↦ rw e (omega (arith, digits_reach limit l (i + 1) (10 * n + (b - 48))))
  | inr e ↦ rw e (omega arith)
]

module _ (limit : ℕ) (bytes : List ℕ) (i n : ℕ) where
  pub digits_on : i < length bytes → takes_digit limit n (get_or bytes i 0) ≡ true
      → digits_from limit (drop i bytes) i n ≡ digits_from limit (drop (i + 1) bytes) (i + 1) (10 * n + (get_or bytes i 0 - 48))
  unfolding digits_from
  digits_on h e = rw (drop-cons bytes i 0 h, digits_from, e, add-one i)

  pub digits_stop : i < length bytes → takes_digit limit n (get_or bytes i 0) ≡ false → digits_from limit (drop i bytes) i n ≡ run i n
  unfolding digits_from
  digits_stop h e = rw (drop-cons bytes i 0 h, digits_from, e)

  -- what takes the number on, and what does not
  pub digits_taken : i < length bytes → 48 ≤ get_or bytes i 0 → get_or bytes i 0 ≤ 57 → 0 < n → n < limit / 10
      → digits_from limit (drop i bytes) i n ≡ digits_from limit (drop (i + 1) bytes) (i + 1) (10 * n + (get_or bytes i 0 - 48))
  digits_taken h a b z t = digits_on h (rw (le-leb 48 (get_or bytes i 0) a, le-leb (get_or bytes i 0) 57 b, lt-ltb 0 n z, lt-ltb n (limit / 10) t))

  pub digits_low : i < length bytes → get_or bytes i 0 < 48 → digits_from limit (drop i bytes) i n ≡ run i n
  digits_low h a = digits_stop h (rw (lt-leb 48 (get_or bytes i 0) a))

  pub digits_high : i < length bytes → 57 < get_or bytes i 0 → digits_from limit (drop i bytes) i n ≡ run i n
  digits_high h a = digits_stop h (rw (lt-leb (get_or bytes i 0) 57 a) (and-false (leb 48 (get_or bytes i 0))))

  pub digits_zero : i < length bytes → n ≡ 0 → digits_from limit (drop i bytes) i n ≡ run i n
  digits_zero h e = digits_stop h (rw (le-ltb 0 n (omega arith), and-false (leb (get_or bytes i 0) 57)) (and-false (leb 48 (get_or bytes i 0))))

  pub digits_full : i < length bytes → limit / 10 ≤ n → digits_from limit (drop i bytes) i n ≡ run i n
  digits_full h a = digits_stop h (rw (le-ltb n (limit / 10) a, and-false (ltb 0 n), and-false (leb (get_or bytes i 0) 57)) (and-false (leb 48 (get_or bytes i 0))))

  pub digits_end : length bytes ≤ i → digits_from limit (drop i bytes) i n ≡ run i n
  unfolding digits_from
  digits_end h = rw (drop_of_length-le bytes {i = i} h)

pub ruleset digits_runs = (digits_taken, digits_low, digits_high, digits_zero, digits_full, digits_end)
