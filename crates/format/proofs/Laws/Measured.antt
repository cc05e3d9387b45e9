-- A call that measures before it writes lends an empty part of its slice to the pass that measures.
use Rattle.std.specs.Prelude.{◌≡◌, ℕ, List, ◌++◌, length}
use Rattle.std.proofs.Common.{ap, arith, length-append}
use Rattle.meaning.proofs.Laws.Rows.{no_length}

-- what stands there afterwards in front of the slice is nothing, so that the slice is as it was
pub empty_part : (w l : List ℕ) → length (w ++ l) ≡ length l → w ++ l ≡ l
empty_part w l e = ap (λ v. v ++ l) (no_length w (omega (arith, length-append w l)))
