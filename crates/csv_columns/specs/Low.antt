-- A stored number in a narrower type, and a list of them stored one after the other.
use Rattle.std.specs.Prelude.{◌≡◌, ℕ, suc, ◌%◌, ◌<◌, List, map, length, get_or, set, drop}
use Rattle.std.proofs.lemmas.List.Edits.{sets}
use Rattle.std.proofs.Common.{drop-cons}

-- what of a number a type of 16 bits holds, and one of 32
abbrev pub low16 : ℕ → ℕ
low16 n = n % 65536

abbrev pub low32 : ℕ → ℕ
low32 n = n % 4294967296

-- the store of number i, then of those after it
pub stores_next_lem : {A : Type 0} (f : ℕ → A) (to : List A) (from : List ℕ) (i : ℕ) → i < length from
    → sets (set to i (f (get_or from i 0))) (suc i) (map f (drop (suc i) from)) ≡ sets to i (map f (drop i from))
stores_next_lem f to from i h = rw (drop-cons from i 0 h)
