-- No second outcome of the pass; the slice where it stops is open.
use Rattle.std.specs.Prelude.{List, ℕ, Result}
use Rattle.meaning.specs.Once.{OnceSeen}
use Rattle.read_pass.specs.Passes.{Pass}
use Rattle.read_pass.specs.PassLaws.{pass_same}

pub pass_once : (text out : List ℕ) → OnceSeen {A = Result ℕ ℕ × List ℕ} (λ (r, m). r) (λ (r, m). Pass text out r m)
pass_once text out x y p q = pass_same text out x.1 y.1 x.0 y.0 p q
