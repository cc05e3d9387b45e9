-- No second answer of the reader of a text.
use Rattle.meaning.specs.Refusals.{Answer}
use Rattle.std.specs.Prelude.{List, ℕ}
use Rattle.meaning.specs.Once.{Once}
use Rattle.meaning.proofs.Laws.Once.{two}
use Rattle.read_text.specs.Reads.{TextRead}
use Rattle.read_text.specs.ReadLaws.{text_read_once}

pub read_once : (text out : List ℕ) → Once {A = Answer × List ℕ} (λ (r, m). TextRead text out r m)
read_once text out x y p q = two (text_read_once p q)
