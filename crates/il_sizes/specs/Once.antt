-- No second answer of any function of this crate.
use Rattle.std.specs.Prelude.{◌≡◌, List, ℕ}
use Rattle.meaning.specs.Once.{Once}
use Rattle.meaning.proofs.Laws.Once.{is_once}
use Rattle.il_sizes.specs.Bytes.{bytes_named}
use Rattle.il_sizes.specs.Told.{SizesTold, sizes_told_same}

pub flip_flop_bytes_once : (ws : List ℕ) → Once (λ r. r ≡ bytes_named ws)
flip_flop_bytes_once ws = is_once (bytes_named ws)

pub sizes_of_once : (ws : List ℕ) → Once (SizesTold ws)
sizes_of_once ws x y p q = sizes_told_same p q
