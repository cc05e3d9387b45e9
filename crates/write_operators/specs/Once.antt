-- No second answer of any function of this crate; of an operator, where it fits.
use Rattle.std.specs.Prelude.{◌≡◌, Bool, List, ℕ}
use Rattle.meaning.specs.Once.{Once}
use Rattle.meaning.proofs.Laws.Once.{is_once}
use Rattle.write_lines.specs.Fit.{PutIfRoom}
use Rattle.write_lines.specs.Once.{RoomFor, one_fit}
use Rattle.write_operators.specs.declared.Way.{Way}
use Rattle.write_operators.specs.Ways.{operator_bytes, next, base_of}

pub put_asked_once : (l : List ℕ) (i : ℕ) (way : Way) (w : Bool) → RoomFor l i (operator_bytes way w) → Once {A = ℕ × List ℕ} (λ (r, m). PutIfRoom l i (operator_bytes way w) m r)
put_asked_once l i way w = one_fit l i (operator_bytes way w)

pub next_once : (way : Way) → Once (λ r. r ≡ next way)
next_once way = is_once (next way)

pub base_once : (way : Way) (total : ℕ) → Once (λ r. r ≡ base_of total way)
base_once way total = is_once (base_of total way)
