-- What is told of the length of a chart state.
use Rattle.meaning.specs.Refusals.{Verdict}
use Rattle.std.specs.Prelude.{ℕ, Ok, Err}
use Rattle.meaning.specs.Tables.{Tables}
use Rattle.meaning.specs.Check.{verdict}
use Rattle.meaning.specs.Lent.{lent_length}
use Rattle.c_answers.specs.declared.CAnswer.{CAnswer}
use Rattle.c_answers.specs.Answers.{Told}

-- the length of a chart state, where the tables are accepted
abbrev pub length_for : Tables → Verdict → ℕ
length_for c (Ok tt) = lent_length c
length_for c (Err r) = 0

abbrev pub LengthTold : Tables → CAnswer → Type 0
LengthTold c a = Told (verdict c) (length_for c (verdict c)) a
