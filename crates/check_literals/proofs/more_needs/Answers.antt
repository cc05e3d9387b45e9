-- By the sign: one set takes what the literal names, the other stays.
use Rattle.check_literals.specs.PlaceLaws.{thing_more, thing_same}
use Rattle.check_literals.proofs.more_needs.Goals as goal

pub returns-then-want : goal.returns-then-want
returns-then-want c =
    let a = c.args in
    let r = c.with_named in
    rw c.if-want.true (thing_more a.a.on r.result a.kind r.ensures, thing_same a.a.off a.kind)

pub returns-else-want : goal.returns-else-want
returns-else-want c =
    let a = c.args in
    let r = c.with_named-else-want in
    rw c.if-want.false (thing_same a.a.on a.kind, thing_more a.a.off r.result a.kind r.ensures)
