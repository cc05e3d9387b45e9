-- Laws of Decimals.antt, case by case.
use Rattle.std.specs.Prelude.{◌≡◌, refl, ℕ, zero, suc, true, pos, negsuc, ◌-ℤ◌, None}
use Rattle.std.proofs.Common.{ap, arith}
use Rattle.std.proofs.lemmas.Bool.{false≢true}
use Rattle.csv_field.specs.declared.FieldPhase.{FieldPhase}
use Rattle.csv_field.specs.declared.FieldPhase.TheVariants.{Fresh, Empty, Quote, Minus, Number, Closed, Return, Bad}
use Rattle.csv_field.specs.Field.{field_begun, phase_after}
use Rattle.csv_value.specs.Decimals.{decimal_of, returned, untouched, begins}

-- where a field begins, its first byte says what it is
pub begin_after : (most below : ℕ) (p : FieldPhase) (b : ℕ) → begins p ≡ true → phase_after most below p b ≡ field_begun most b
unfolding phase_after
begin_after most below Fresh b e = refl
begin_after most below Empty b e = refl
begin_after most below Quote b e = absurd (false≢true e)
begin_after most below (Minus q) b e = absurd (false≢true e)
begin_after most below (Number q s n) b e = absurd (false≢true e)
begin_after most below (Closed s n) b e = absurd (false≢true e)
begin_after most below Return b e = absurd (false≢true e)
begin_after most below Bad b e = absurd (false≢true e)

-- ---- nothing to store

pub return_none : (p : FieldPhase) → returned p ≡ true → decimal_of p ≡ None
unfolding decimal_of
return_none Fresh e = refl
return_none Empty e = refl
return_none Quote e = refl
return_none (Minus q) e = refl
return_none (Number q s n) e = absurd (false≢true e)
return_none (Closed s n) e = absurd (false≢true e)
return_none Return e = refl
return_none Bad e = refl

pub fresh_none : (p : FieldPhase) → untouched p ≡ true → decimal_of p ≡ None
unfolding decimal_of
fresh_none Fresh e = refl
fresh_none Empty e = refl
fresh_none Quote e = refl
fresh_none (Minus q) e = refl
fresh_none (Number q s n) e = absurd (false≢true e)
fresh_none (Closed s n) e = absurd (false≢true e)
fresh_none Return e = refl
fresh_none Bad e = refl

-- ---- signed numbers

pub minus_one : (n : ℕ) → negsuc 0 -ℤ pos n ≡ negsuc n
minus_one zero = refl
minus_one (suc n) = ap negsuc (omega arith)
