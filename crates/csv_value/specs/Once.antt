-- No second answer of any function of this crate, nor of three of its definitions.
use Rattle.std.specs.Prelude.{◌≡◌, Bool, ℕ}
use Rattle.meaning.specs.Once.{Once}
use Rattle.meaning.proofs.Laws.Once.{is_once}
use Rattle.csv_field.specs.declared.FieldPhase.{FieldPhase}
use Rattle.csv_value.specs.Decimals.{encoded, decimal_of, returned, untouched, begins, failed, signed_of}

pub encode_once : (negative : Bool) (n : ℕ) → Once (λ r. r ≡ encoded negative n)
encode_once negative n = is_once (encoded negative n)

pub signed_once : (x : ℕ) → Once (λ r. r ≡ signed_of x)
signed_once x = is_once (signed_of x)

pub decimal_of_once : (s : FieldPhase) → Once (λ d. d ≡ decimal_of s)
decimal_of_once s = is_once (decimal_of s)

-- no second answer meets the definition
pub is_return_once : (s : FieldPhase) → Once (λ t. t ≡ returned s)
is_return_once s = is_once (returned s)

-- no second answer meets the definition
pub is_fresh_once : (s : FieldPhase) → Once (λ t. t ≡ untouched s)
is_fresh_once s = is_once (untouched s)

pub is_begin_once : (s : FieldPhase) → Once (λ t. t ≡ begins s)
is_begin_once s = is_once (begins s)

-- no second answer meets the definition
pub is_bad_once : (s : FieldPhase) → Once (λ t. t ≡ failed s)
is_bad_once s = is_once (failed s)
