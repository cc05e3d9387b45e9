-- No second answer of any function of this crate.
use Rattle.std.specs.Prelude.{◌≡◌, List, ℕ}
use Rattle.meaning.specs.Once.{Once}
use Rattle.meaning.proofs.Laws.Once.{is_once}
use Rattle.csv_bare.specs.Bare.{bare_from, end_from}

pub bare_once : (most below : ℕ) (bytes : List ℕ) (from : ℕ) → Once (λ u. u ≡ bare_from most below bytes from)
bare_once most below bytes from = is_once (bare_from most below bytes from)

pub field_end_once : (left : ℕ) (bytes : List ℕ) (end : ℕ) → Once (λ last. last ≡ end_from left bytes end)
field_end_once left bytes end = is_once (end_from left bytes end)
