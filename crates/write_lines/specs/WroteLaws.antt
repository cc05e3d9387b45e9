-- From a text that is measured and then written to what the call leaves.
use Rattle.std.specs.Prelude.{◌≡◌, List, [], ◌++◌, ℕ, ◌+◌, ◌≤◌, ◌<◌, Ok, Err}
use Rattle.std.proofs.Math.Path.{ap}
use Rattle.std.proofs.Common.{◌∙◌}
use native.Mathlib.Omega.{arith}
use Rattle.std.proofs.Math.ListN.{length}
use Rattle.std.proofs.Math.Seq.{sets, sets-eq}
use borrow.Author.Tests.{le-leb, lt-leb}
use Rattle.meaning.specs.Rows.{most64}
use Rattle.meaning.proofs.Laws.Rows.{no_length}
use Rattle.meaning.specs.Calls.{overlaid}
use Rattle.meaning.specs.declared.Refusal.TheVariants as R
use Rattle.format.specs.Places.{room}
use Rattle.format.specs.TextWritten.{TextWritten}
use Rattle.write_lines.specs.Fit.{PutIfRoom}

module _ (t l m : List ℕ) (r : ℕ) (measured : PutIfRoom [] 0 t m r) where
  -- a writer over no bytes measures, and writes nothing
  kept : m ++ l ≡ l
  kept = ap (λ x. x ++ l) (no_length m measured.long)

  pub refuses : length l < r → TextWritten t l (Err (R.Room r)) (m ++ l)
  unfolding room
  refuses h =
      let e = lt-leb (length t) (length l) (omega (arith, measured.next)) in
      let n : r ≡ room (length t) = omega (arith, measured.next) in
      record { answer = rw (e, n); out = rw e kept }

  -- a slice is shorter than the largest number
  pub writes : length l < most64 → r ≤ length l → {n : List ℕ} {k : ℕ} → PutIfRoom (m ++ l) 0 t n k → TextWritten t l (Ok r) n
  unfolding overlaid
  writes short h p =
      let e = le-leb (length t) (length l) (omega (arith, measured.next)) in
      let z : 0 + length t ≡ length t = omega arith in
      let n : r ≡ length t = omega (arith, measured.next) in
      record {
        answer = rw (e, n);
        out = rw e (p.list (omega (arith, measured.next, ap length kept)) ∙ ap (λ x. sets x 0 t) kept ∙ sets-eq t l 0 (omega (arith, measured.next)) ∙ rw z);
      }
