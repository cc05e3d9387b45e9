-- No second answer of any function of this crate.
use Rattle.std.specs.Prelude.{◌≡◌, List, map, ℕ, ◌*◌, min}
use Rattle.std.proofs.lemmas.List.Edits.{sets}
use Rattle.meaning.specs.Once.{Once}
use Rattle.meaning.proofs.Laws.Once.{is_once}
use Rattle.csv_value.specs.Decimals.{signed_of}
use Rattle.csv_columns.specs.Low.{low16, low32}

-- what a number is stored as, in any column's type
pub stored_as_once : {A : Type 0} (f : ℕ → A) (x : ℕ) → Once (λ r. r ≡ f x)
stored_as_once f x = is_once (f x)

pub narrow_once : (A : Type 0) (f : ℕ → A) (from : List ℕ) (to : List A) → Once (λ m. m ≡ sets to 0 (map f from))
narrow_once A f from to = is_once (sets to 0 (map f from))

pub kept_once : (row rows room : ℕ) → Once (λ r. r ≡ min (row * rows) room)
kept_once row rows room = is_once (min (row * rows) room)

-- the same of each column's type
pub low_16_once : (x : ℕ) → Once (λ r. r ≡ low16 x)
low_16_once x = is_once (low16 x)

pub low_32_once : (x : ℕ) → Once (λ r. r ≡ low32 x)
low_32_once x = is_once (low32 x)

pub signed_of_once : (x : ℕ) → Once (λ r. r ≡ signed_of x)
signed_of_once x = is_once (signed_of x)
