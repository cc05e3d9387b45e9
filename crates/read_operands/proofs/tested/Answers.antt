-- By the laws of the three operands: the one that was read, or none of them.
use Rattle.read_operands.specs.NameLaws.{tests_mx, tests_ix, tests_q, tests_none}
use Rattle.read_operands.proofs.tested.Goals as goal

pub returns-in-Some : goal.returns-in-Some
returns-in-Some c = tests_mx c.in-Some.ensures

pub returns-in-Some-numbered : goal.returns-in-Some-numbered
returns-in-Some-numbered c = tests_ix c.in-Some-numbered.ensures

pub returns-in-Some-numbered-2 : goal.returns-in-Some-numbered-2
returns-in-Some-numbered-2 c = tests_q c.in-Some-numbered-2.ensures

pub returns : goal.returns
returns c = tests_none c.in_default.ensures c.in_default-numbered.ensures c.in_default-numbered-2.ensures
