-- No second answer of what a line says.
use Rattle.std.specs.Prelude.{◌≡◌, List, ℕ}
use Rattle.meaning.specs.Once.{Once}
use Rattle.meaning.proofs.Laws.Once.{is_once}
use Rattle.format.specs.Automata.Lines.{said}

pub line_of_once : (s : List ℕ) → Once (λ r. r ≡ said s)
line_of_once s = is_once (said s)
