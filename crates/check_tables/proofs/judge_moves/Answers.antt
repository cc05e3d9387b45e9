-- MOVE tells that the sources are states, which the checks of what the moves need stand on.
use Rattle.std.proofs.Common.{◌∙◌, ◌≡◌, sym, ap, rules, arith, [], ◌∷◌, Ok}
use Rattle.std.proofs.lemmas.Result.{err_from_is_err_and}
use Rattle.meaning.specs.Tables.{Tables}
use Rattle.meaning.specs.Check.{verdict_of}
use Rattle.meaning.proofs.Laws.Rules.{move_tells}
use Rattle.tables.specs.Given.{given}
use Rattle.check_idle.specs.Leaves.{Sources, source_known}
use Rattle.check_tables.specs.Verdicts.{move_check, need_checks, passed, is_refused, first_refuses, first_passes}
use Rattle.check_tables.proofs.judge_moves.Goals as goal

-- the check of the moves has passed
sources : (c : Tables) → Ok tt ≡ verdict_of (move_check c ∷ []) → Sources c
sources c e i h = source_known c i ((move_tells c i).0 (passed (move_check c) (ap is_refused (sym e)) i h))

pub returns-in_err-judge : goal.returns-in_err-judge
returns-in_err-judge c s =
    let d = given c.args.t.now in
    let p = err_from_is_err_and c.from_residual.result c.from_residual.ensures.1 in
    rw (p.1, p.2)
    (first_refuses (move_check d) (need_checks d) (c.in_err-judge.ensures (move_check d) (sym c.move_count-moves.ensures) (λ i h b p. search rules) (λ i h r p. search rules)))

pub returns-then-moves-le-FEW : goal.returns-then-moves-le-FEW
returns-then-moves-le-FEW c s =
    let d = given c.args.t.now in
    let m = c.in_ok-judge.ensures (move_check d) (sym c.move_count-moves.ensures) (λ i h b p. search rules) (λ i h r p. search rules) in
    c.judge_needs.ensures s (sources d m) (omega (arith, c.move_count-moves.ensures, c.if-moves-le-FEW.true)) ∙ first_passes (move_check d) (need_checks d) m

pub returns-else-moves-le-FEW : goal.returns-else-moves-le-FEW
returns-else-moves-le-FEW c s =
    let d = given c.args.t.now in
    let m = c.in_ok-judge.ensures (move_check d) (sym c.move_count-moves.ensures) (λ i h b p. search rules) (λ i h r p. search rules) in
    c.judge_needs-else-moves-le-FEW.ensures s (sources d m) s.few_moves ∙ first_passes (move_check d) (need_checks d) m
