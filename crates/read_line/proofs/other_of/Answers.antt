-- Each form that is met is its line, by KindLaws; where none is met, no line is.
use Rattle.read_line.specs.KindLaws.{load_or, load_close, store_call, line_block, line_var, line_end_var, line_header, line_end, differs, no_other}
use Rattle.read_line.proofs.other_of.Goals as goal

pub returns-then-same : goal.returns-then-same
returns-then-same c = load_or (c.same.ensures.0 c.if-same.true)

pub returns-then-same-2 : goal.returns-then-same-2
returns-then-same-2 c = load_close (c.same-2.ensures.0 c.if-same-2.true)

pub returns-in-Some : goal.returns-in-Some
returns-in-Some c = store_call c.in-Some.ensures

pub returns-in-Some-numbered : goal.returns-in-Some-numbered
returns-in-Some-numbered c = line_block c.in-Some-numbered.ensures

pub returns-then-same-3 : goal.returns-then-same-3
returns-then-same-3 c = line_var (c.same-3.ensures.0 c.if-same-3.true)

pub returns-then-same-4 : goal.returns-then-same-4
returns-then-same-4 c = line_end_var (c.same-4.ensures.0 c.if-same-4.true)

pub returns-then-same-5 : goal.returns-then-same-5
returns-then-same-5 c = line_header (c.same-5.ensures.0 c.if-same-5.true)

pub returns-then-same-6 : goal.returns-then-same-6
returns-then-same-6 c = line_end (c.same-6.ensures.0 c.if-same-6.true)

pub returns : goal.returns
returns c = no_other c.requires (differs c.same.ensures c.if-same.false) (differs c.same-2.ensures c.if-same-2.false) c.in_default.ensures c.in_default-numbered.ensures (differs c.same-3.ensures c.if-same-3.false) (differs c.same-4.ensures c.if-same-4.false) (differs c.same-5.ensures c.if-same-5.false) (differs c.same-6.ensures c.if-same-6.false)
