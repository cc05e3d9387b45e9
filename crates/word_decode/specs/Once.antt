-- No second answer of what a word is decoded to.
use Rattle.std.specs.Prelude.{◌≡◌, ℕ}
use Rattle.meaning.specs.Once.{Once}
use Rattle.meaning.proofs.Laws.Once.{is_once}
use Rattle.format.specs.Decode.{decoded}

pub decode_once : (w : ℕ) → Once (λ r. r ≡ decoded w)
decode_once w = is_once (decoded w)
