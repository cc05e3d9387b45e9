-- Each way of a byte that ends a field, as `field_end` has it.
use Rattle.std.proofs.Common.{arith}
use Rattle.std.proofs.lemmas.Grind.{common_steps}
use Rattle.csv_records.specs.Automaton.{field_end, field_emits, taken, numbers_of}
use Rattle.csv_records.specs.StepLaws.{return_emits}
use Rattle.csv_records.proofs.end_field.Goals as goal

pub returns-then-matches : goal.returns-then-matches
unfolding field_end field_emits taken numbers_of
returns-then-matches c = grind (arith, return_emits)

pub returns-in-Some : goal.returns-in-Some
unfolding field_end field_emits taken numbers_of
returns-in-Some c = grind (arith, common_steps)

pub returns-in_default-decimal_of : goal.returns-in_default-decimal_of
unfolding field_end field_emits taken numbers_of
returns-in_default-decimal_of c = grind (arith, common_steps)
