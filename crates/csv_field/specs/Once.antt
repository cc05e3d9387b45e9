-- No second answer of any function of this crate, nor of a byte as a number.
use Rattle.std.specs.Prelude.{◌≡◌, ℕ}
use Rattle.meaning.specs.Once.{Once}
use Rattle.meaning.proofs.Laws.Once.{is_once}
use Rattle.csv_field.specs.declared.FieldPhase.{FieldPhase}
use Rattle.csv_field.specs.Field.{phase_after}

-- no second answer meets the definition (a byte as a number)
pub wide_once : (b : ℕ) → Once (λ r. r ≡ b)
wide_once b = is_once b

pub within_once : (most below : ℕ) (s : FieldPhase) (b : ℕ) → Once (λ p. p ≡ phase_after most below s b)
within_once most below s b = is_once (phase_after most below s b)
