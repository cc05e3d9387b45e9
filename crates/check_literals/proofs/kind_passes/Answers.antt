-- By the kind of the literal, and whether it is beyond the counts.
use native.Mathlib.Omega.{arith}
use borrow.Author.Tests.{lt-leb}
use mathlib.Core.Path.{sym, ◌∙◌}
use lib.IntN.{nat_abs}
use Rattle.meaning.specs.Tables.{literal}
use Rattle.meaning.proofs.Laws.Needs.{size_as}
use Rattle.meaning.specs.declared.Kind.TheVariants.{Input, Timer}
use Rattle.check_literals.specs.PlaceLaws.{unused_passes, unknown_fails, input_passes, input_fails, timer_passes_lem, timer_fails}
use Rattle.check_literals.proofs.kind_passes.Goals as goal

pub returns-then-from-counts : goal.returns-then-from-counts
returns-then-from-counts c c' i k p q h e =
    let f = sym e ∙ c.in-Input.is in
    let z = size_as (nat_abs (literal c' i k)) (Input _) f in
    c.free.ensures z.1 z.2 ∙ input_passes c' i k c.args.a h _ f (omega (arith, p, c.from.ensures, c.if-from-counts.true))

pub returns-then-from-counts-2 : goal.returns-then-from-counts-2
returns-then-from-counts-2 c c' i k p q h e =
    let f = sym e ∙ c.in-Timer.is in
    let z = size_as (nat_abs (literal c' i k)) (Timer _) f in
    c.free-then-from-counts-2.ensures z.1 (omega (arith, z.2))
    ∙ timer_passes_lem c' i k c.args.a h _ f (omega (arith, q, c.from-in-Timer.ensures, c.if-from-counts-2.true))

pub returns-in-Unused : goal.returns-in-Unused
returns-in-Unused c c' i k p q h e = unused_passes c' i k c.args.a h (sym e ∙ c.in-Unused.is)

pub returns-else-from-counts : goal.returns-else-from-counts
returns-else-from-counts c c' i k p q h e =
    let l = c.if-from-counts.false in
    rw (lt-leb c.from.result c.args.counts.inputs l)
    (input_fails c' i k c.args.a h _ (sym e ∙ c.in-Input.is) (omega (arith, p, c.from.ensures, l)))

pub returns-else-from-counts-2 : goal.returns-else-from-counts-2
returns-else-from-counts-2 c c' i k p q h e =
    let l = c.if-from-counts-2.false in
    rw (lt-leb c.from-in-Timer.result c.args.counts.timers l)
    (timer_fails c' i k c.args.a h _ (sym e ∙ c.in-Timer.is) (omega (arith, q, c.from-in-Timer.ensures, l)))

pub returns-in-Unknown : goal.returns-in-Unknown
returns-in-Unknown c c' i k p q h e = unknown_fails c' i k c.args.a h (sym e ∙ c.in-Unknown.is)
