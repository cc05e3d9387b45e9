-- The operand of a number, by the range that the number is in.
use Rattle.std.specs.Prelude.{◌≡◌, ℕ, ◌-◌, ◌≤◌}
use Rattle.std.proofs.Common.{arith, le-leb, ne_eqb}
use Rattle.std.proofs.lemmas.Bool.{lt-leb}
use Rattle.meaning.specs.declared.Operand.TheVariants.{Mx, Ix, Qx, TimerQ, TimerIn, TimerPt, Timer}
use Rattle.format.specs.Decode.{operand_of}

pub operand_mx : (m : ℕ) → m ≤ 384 → operand_of m ≡ Mx m
unfolding operand_of
operand_mx m h = rw (operand_of, le-leb m 384 (omega arith))

pub operand_ix : (m : ℕ) → 385 ≤ m → m ≤ 512 → operand_of m ≡ Ix (m - 384)
unfolding operand_of
operand_ix m h k = rw (operand_of, lt-leb m 384 (omega arith), le-leb m 512 (omega arith))

pub operand_qx : (m : ℕ) → 513 ≤ m → m ≤ 768 → operand_of m ≡ Qx (m - 512)
unfolding operand_of
operand_qx m h k = rw (operand_of, lt-leb m 384 (omega arith), lt-leb m 512 (omega arith), le-leb m 768 (omega arith))

pub operand_timer_q : (m : ℕ) → 769 ≤ m → m ≤ 1024 → operand_of m ≡ TimerQ (m - 768)
unfolding operand_of
operand_timer_q m h k = rw (operand_of, lt-leb m 384 (omega arith), lt-leb m 512 (omega arith), lt-leb m 768 (omega arith), le-leb m 1024 (omega arith))

pub operand_timer_in : (m : ℕ) → 1025 ≤ m → m ≤ 1280 → operand_of m ≡ TimerIn (m - 1024)
unfolding operand_of
operand_timer_in m h k = rw (operand_of, lt-leb m 384 (omega arith), lt-leb m 512 (omega arith), lt-leb m 768 (omega arith), lt-leb m 1024 (omega arith), le-leb m 1280 (omega arith))

pub operand_timer_pt : (m : ℕ) → 1281 ≤ m → m ≤ 1536 → operand_of m ≡ TimerPt (m - 1280)
unfolding operand_of
operand_timer_pt m h k = rw (operand_of, lt-leb m 384 (omega arith), lt-leb m 512 (omega arith), lt-leb m 768 (omega arith), lt-leb m 1024 (omega arith), lt-leb m 1280 (omega arith), le-leb m 1536 (omega arith))

pub operand_timer : (m : ℕ) → 1537 ≤ m → m ≤ 1999 → operand_of m ≡ Timer (m - 1536)
unfolding operand_of
operand_timer m h k = rw (operand_of, lt-leb m 384 (omega arith), lt-leb m 512 (omega arith), lt-leb m 768 (omega arith), lt-leb m 1024 (omega arith), lt-leb m 1280 (omega arith), lt-leb m 1536 (omega arith), le-leb m 1999 (omega arith))

pub operand_none : (m : ℕ) → 2002 ≤ m → operand_of m ≡ Timer 0
unfolding operand_of
operand_none m h = rw (operand_of, lt-leb m 384 (omega arith), lt-leb m 512 (omega arith), lt-leb m 768 (omega arith), lt-leb m 1024 (omega arith), lt-leb m 1280 (omega arith), lt-leb m 1536 (omega arith), lt-leb m 1999 (omega arith), ne_eqb m 2000 (λ e. omega arith), ne_eqb m 2001 (λ e. omega arith))
