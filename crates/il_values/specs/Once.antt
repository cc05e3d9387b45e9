-- No second answer of any function of this crate.
use Rattle.std.specs.Prelude.{◌≡◌, Bool, List, ℕ, ◌-◌}
use Rattle.meaning.specs.Once.{Once}
use Rattle.meaning.proofs.Laws.Once.{is_once}
use Rattle.meaning.specs.Scan.{flip_flop_on}
use Rattle.meaning.specs.declared.Operand.{Operand}
use Rattle.il_values.specs.Value.{with_bit, value_in}

pub from_zero_once : (n : ℕ) → Once (λ r. r ≡ n - 1)
from_zero_once n = is_once (n - 1)

pub flip_flop_once : (fs : List ℕ) (n : ℕ) → Once (λ r. r ≡ flip_flop_on fs n)
flip_flop_once fs n = is_once (flip_flop_on fs n)

pub with_bit_once : (w k : ℕ) (v : Bool) → Once (λ r. r ≡ with_bit w k v)
with_bit_once w k v = is_once (with_bit w k v)

pub value_once : (fs : List ℕ) (x qs : ℕ) (o : Operand) → Once (λ r. r ≡ value_in x qs fs o)
value_once fs x qs o = is_once (value_in x qs fs o)
