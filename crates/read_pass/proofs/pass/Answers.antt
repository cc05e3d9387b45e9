-- By the laws of the loop over the lines, in PassLaws: one more line, and each way out.
use mathlib.Core.Path.{sym, ◌∙◌}
use native.Mathlib.Omega.{arith}
use Rattle.read_pass.specs.PassLaws.{passing_none, passing_line, passing_refused, passing_unfinished, passing_short, passing_over}
use Rattle.read_pass.proofs.pass.Goals as goal

pub loop-from-init : goal.loop-from-init
loop-from-init c = passing_none _ _ _ c.first-p.ensures

pub returns-then-to-text : goal.returns-then-to-text
returns-then-to-text c = let f = c.line_end-to.ensures in
    passing_unfinished c.loop-from.invariant (rw c.if-to-text.true at f) (omega arith)

pub loop-from-preserved : goal.loop-from-preserved
loop-from-preserved c = let f = c.line_end-to.ensures in
    passing_line c.loop-from.invariant c.line_end-to.result f (omega (arith, f.within)) c.line_of-l.result c.line_of-l.ensures c.turn-p.ensures (sym c.stands.ensures ∙ c.if-not-stands.false) c.put_line-n.ensures.0 c.put_line-n.ensures.1

pub returns-then-not-stands : goal.returns-then-not-stands
returns-then-not-stands c = let f = c.line_end-to.ensures in
    passing_refused c.loop-from.invariant c.line_end-to.result f (omega (arith, f.within)) c.line_of-l.result c.line_of-l.ensures c.turn-p.ensures (sym c.stands.ensures ∙ c.if-not-stands.true)

pub returns : goal.returns
returns c = passing_over c.loop-from.invariant (omega arith) (sym c.is_over.ensures ∙ c.if-not-is_over.false)

pub returns-then-not-is_over : goal.returns-then-not-is_over
returns-then-not-is_over c = passing_short c.loop-from.invariant (omega arith) (sym c.is_over.ensures ∙ c.if-not-is_over.true)
