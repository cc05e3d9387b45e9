-- No second answer of an instruction's word.
use Rattle.std.specs.Prelude.{◌≡◌, ◌%◌}
use Rattle.meaning.specs.Once.{Once}
use Rattle.meaning.proofs.Laws.Once.{is_once}
use Rattle.meaning.specs.declared.Operator.{Operator}
use Rattle.format.specs.Words.{word}

pub encode_once : (i : Operator) → Once (λ r. r ≡ word i % 4294967296)
encode_once i = is_once (word i % 4294967296)
