-- By the third byte: each form that is met is its line, by KindLaws; where none is met, no line is.
use native.Mathlib.Omega.{arith}
use Rattle.std.proofs.lemmas.Grind.{common_steps}
use Rattle.read_line.specs.KindLaws.{test_ldn, load_test, load_false, load_true, load_time, differs, no_ld, no_ldn}
use Rattle.read_line.proofs.load_of.Goals as goal

pub returns-in-Some : goal.returns-in-Some
returns-in-Some c = test_ldn c.in-Some.ensures

pub returns-in-None : goal.returns-in-None
returns-in-None c = no_ldn c.requires (grind arith) c.in-None.ensures

pub returns-in-Some-test_after : goal.returns-in-Some-test_after
returns-in-Some-test_after c = load_test c.in-Some-test_after.ensures

pub returns-then-same : goal.returns-then-same
returns-then-same c = load_false (c.same.ensures.0 c.if-same.true)

pub returns-then-same-2 : goal.returns-then-same-2
returns-then-same-2 c = load_true (c.same-2.ensures.0 c.if-same-2.true)

pub returns-in-Some-numbered : goal.returns-in-Some-numbered
returns-in-Some-numbered c = load_time c.in-Some-numbered.ensures

pub returns : goal.returns
returns c = no_ld c.requires (λ e. grind (arith, common_steps)) c.in_default-test_after.ensures (differs c.same.ensures c.if-same.false) (differs c.same-2.ensures c.if-same-2.false) c.in_default-numbered.ensures
