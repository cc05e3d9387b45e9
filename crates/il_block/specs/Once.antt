-- No second answer of any function of this crate, nor of whether a block is in its time as well as what came before.
use Rattle.std.specs.Prelude.{◌≡◌, Bool, ◌&&◌, List, ℕ}
use Rattle.meaning.specs.Once.{Once}
use Rattle.meaning.proofs.Laws.Once.{is_once}
use Rattle.meaning.specs.declared.Block.{Block}
use Rattle.il_values.specs.Value.{with_bit}
use Rattle.il_block.specs.Called.{called_with, in_its_time}

pub cal_once : (b : Block) (on : Bool) (pt step : ℕ) → Once (λ r. r ≡ called_with step on pt b)
cal_once b on pt step = is_once (called_with step on pt b)

pub with_q_once : (qs i : ℕ) (b : Block) → Once (λ r. r ≡ with_bit qs i b.q)
with_q_once qs i b = is_once (with_bit qs i b.q)

pub in_its_time_once : (ts : List ℕ) (i : ℕ) (b : Block) → Once (λ r. r ≡ in_its_time i b ts)
in_its_time_once ts i b = is_once (in_its_time i b ts)

-- no second answer meets the definition
pub also_in_time_once : (ts : List ℕ) (ok : Bool) (i : ℕ) (b : Block) → Once (λ r. r ≡ (ok && in_its_time i b ts))
also_in_time_once ts ok i b = is_once (ok && in_its_time i b ts)
