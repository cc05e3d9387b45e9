-- A field of a record, byte after byte: where its reader stands.
use Rattle.std.specs.Prelude.{ℕ, ◌+◌, ◌*◌, ◌-◌, Bool, true, false, ◌&&◌, cond, leb, eqb}
use Rattle.meaning.specs.Literals.{between}
pub use Rattle.meaning.specs.Rows.{most64}
use Rattle.csv_field.specs.declared.FieldPhase.{FieldPhase}
use Rattle.csv_field.specs.declared.FieldPhase.TheVariants.{Fresh, Empty, Quote, Minus, Number, Closed, Return, Bad}

-- a number with one digit more
unfoldable pub digit_added : ℕ → Bool → Bool → ℕ → ℕ → FieldPhase
digit_added limit quoted negative n b =
    cond (between 48 57 b && leb (10 * n + (b - 48)) limit) (Number quoted negative (10 * n + (b - 48))) Bad

unfoldable pub field_begun : ℕ → ℕ → FieldPhase
field_begun most b = cond (eqb b 34) Quote (cond (eqb b 45) (Minus false) (digit_added most false false 0 b))

-- "no .. leading zero": nothing but a closing quote follows a 0
unfoldable pub number_after : ℕ → Bool → Bool → ℕ → ℕ → FieldPhase
number_after limit quoted negative n b =
    cond (eqb b 34) (cond quoted (Closed negative n) Bad) (cond (eqb n 0) Bad (digit_added limit quoted negative n b))

-- a byte that ends no field. A number without a sign has below = 0, so that nothing follows its minus.
unfoldable pub phase_after : ℕ → ℕ → FieldPhase → ℕ → FieldPhase
phase_after most below Fresh b = field_begun most b
phase_after most below Empty b = field_begun most b
phase_after most below Quote b = cond (eqb b 45) (Minus true) (digit_added most true false 0 b)
phase_after most below (Minus quoted) b = cond (eqb b 48) Bad (digit_added below quoted true 0 b)
phase_after most below (Number quoted negative n) b = number_after (cond negative below most) quoted negative n b
phase_after most below (Closed negative n) b = Bad
phase_after most below Return b = Bad
phase_after most below Bad b = Bad
