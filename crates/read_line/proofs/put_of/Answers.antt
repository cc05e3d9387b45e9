-- Each form that is met is its line, by KindLaws; where none is met, no line is.
use Rattle.read_line.specs.KindLaws.{store_mx, store_qx, store_in, store_pt, no_put}
use Rattle.read_line.proofs.put_of.Goals as goal

pub returns-in-Some : goal.returns-in-Some
returns-in-Some c = store_mx c.in-Some.ensures

pub returns-in-Some-numbered : goal.returns-in-Some-numbered
returns-in-Some-numbered c = store_qx c.in-Some-numbered.ensures

pub returns-in-Some-numbered-2 : goal.returns-in-Some-numbered-2
returns-in-Some-numbered-2 c = store_in c.in-Some-numbered-2.ensures

pub returns-in-Some-numbered-3 : goal.returns-in-Some-numbered-3
returns-in-Some-numbered-3 c = store_pt c.in-Some-numbered-3.ensures

pub returns : goal.returns
returns c = no_put c.requires c.in_default.ensures c.in_default-numbered.ensures c.in_default-numbered-2.ensures c.in_default-numbered-3.ensures
