-- A timer block after its call, and whether it is in its time.
use Rattle.std.specs.Prelude.{ℕ, Bool, ◌&&◌, List, get_or, leb, ltb}
use Rattle.meaning.specs.Scan.{ton, with_in, with_pt}
use Rattle.meaning.specs.declared.Block.{Block}

-- block b after CAL, with the scan step d
unfoldable pub called_with : ℕ → Bool → ℕ → Block → Block
called_with d on pt b = ton d (with_pt pt (with_in on b))

-- block i, from 0, has its time among 32, and its ET is not above it
unfoldable pub in_its_time : ℕ → Block → List ℕ → Bool
in_its_time i b ts = ltb i 32 && leb b.et (get_or ts i 0)
