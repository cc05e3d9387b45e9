-- By the fourth byte: the form that is met is its line, by KindLaws; where it is not met, no line is.
use native.Mathlib.Omega.{arith}
use Rattle.std.proofs.lemmas.Grind.{common_steps}
use Rattle.read_line.specs.KindLaws.{test_and, test_andn, no_and, no_andn}
use Rattle.read_line.proofs.and_of.Goals as goal

pub returns-in-Some : goal.returns-in-Some
returns-in-Some c = test_andn c.in-Some.ensures

pub returns-in-None : goal.returns-in-None
returns-in-None c = no_andn c.requires (grind arith) c.in-None.ensures

pub returns-in-Some-test_after : goal.returns-in-Some-test_after
returns-in-Some-test_after c = test_and c.in-Some-test_after.ensures

pub returns-in-None-test_after : goal.returns-in-None-test_after
returns-in-None-test_after c = no_and c.requires (λ e. grind (arith, common_steps)) c.in-None-test_after.ensures
