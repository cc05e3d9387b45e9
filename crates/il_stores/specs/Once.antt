-- No second answer of what an instruction does to the flip-flops.
use Rattle.std.specs.Prelude.{◌≡◌, Bool, List, ℕ}
use Rattle.meaning.specs.Once.{Once}
use Rattle.meaning.proofs.Laws.Once.{is_once}
use Rattle.meaning.specs.declared.Operator.{Operator}
use Rattle.il_stores.specs.Acted.{acted}

pub change_once : (fs : List ℕ) (i : Operator) (v : Bool) → Once (λ m. m ≡ acted i v fs)
change_once fs i v = is_once (acted i v fs)
