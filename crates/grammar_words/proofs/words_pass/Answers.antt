-- By the laws of the loop, in Pass: a word that is refused, one more word, and the two ends.
use Rattle.grammar_words.specs.Pass.{took_none, took_one, took_refused, took_accepted, took_unfinished}
use native.Mathlib.Omega.{arith}
use mathlib.Core.Path.{◌≡◌, sym, ◌∙◌}
use lib.ListN.{length}
use Rattle.grammar_words.proofs.words_pass.Goals as goal

pub loop-i-init : goal.loop-i-init
loop-i-init c = rw c.begin-s.ensures (took_none _)

pub returns-then-not-alive : goal.returns-then-not-alive
returns-then-not-alive c = took_refused c.loop-i.invariant c.step_near-next.result c.loop-i-test.true c.step_near-next.ensures (sym c.alive.ensures ∙ c.if-not-alive.true)

pub loop-i-preserved : goal.loop-i-preserved
loop-i-preserved c = took_one c.loop-i.invariant c.step_near-next.result c.loop-i-test.true c.step_near-next.ensures (sym c.alive.ensures ∙ c.if-not-alive.false)

pub returns-then-not-may_end : goal.returns-then-not-may_end
returns-then-not-may_end c =
    let e : c.loop-i.i ≡ length c.args.words.now = omega arith in
    rw e at (took_unfinished c.loop-i.invariant c.loop-i-test.false (sym c.may_end.ensures ∙ c.if-not-may_end.true))

pub returns : goal.returns
returns c = took_accepted c.loop-i.invariant c.loop-i-test.false (sym c.may_end.ensures ∙ c.if-not-may_end.false)
