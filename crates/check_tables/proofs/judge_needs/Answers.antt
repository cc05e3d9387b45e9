-- LITERAL, IDLE TIMER and OVERLAP one after the other: the later ones by the words that LITERAL has left.
use Rattle.std.proofs.Common.{◌∙◌, ◌≡◌, refl, arith, [], ◌∷◌, length, replicate, ℕ}
use Rattle.std.proofs.lemmas.List.{length-replicate}
use Rattle.std.proofs.lemmas.Result.{err_from_is_err_and}
use Rattle.tables.specs.Given.{given}
use Rattle.check_tables.specs.Verdicts.{literal_check, idle_check, overlap_check, LiteralsPassed, worded, first_refuses, first_passes}
use Rattle.check_tables.proofs.judge_needs.Goals as goal

pub returns-in_err-judge_literal : goal.returns-in_err-judge_literal
returns-in_err-judge_literal g c s o k =
    let d = given c.args.t.now in
    let p = err_from_is_err_and c.from_residual.result c.from_residual.ensures.1 in
    rw (p.1, p.2) (first_refuses (literal_check d) (idle_check d ∷ overlap_check d ∷ []) c.in_err-judge_literal.ensures.0)

pub returns-in_err-judge_timers : goal.returns-in_err-judge_timers
returns-in_err-judge_timers g c s o k =
    let d = given c.args.t.now in
    let l = c.in_ok-judge_literal.ensures in
    let long : length {A = ℕ} (replicate g.row.WORDS 0) ≡ g.row.WORDS = length-replicate {A = ℕ} g.row.WORDS 0 in
    let w : LiteralsPassed d c.judge_literal.new.needs = worded d _ l.0 refl (omega (arith, k, long, c.judge_literal.auto.needs)) (l.1 refl (omega (arith, k, long))) in
    let r = c.from_residual-in_err-judge_timers in
    let p = err_from_is_err_and r.result r.ensures.1 in
    rw (p.1, p.2)
    (first_refuses (idle_check d) (overlap_check d ∷ []) (c.in_err-judge_timers.ensures s o w) ∙ first_passes (literal_check d) (idle_check d ∷ overlap_check d ∷ []) l.0)

pub returns : goal.returns
returns g c s o k =
    let d = given c.args.t.now in
    let l = c.in_ok-judge_literal.ensures in
    let long : length {A = ℕ} (replicate g.row.WORDS 0) ≡ g.row.WORDS = length-replicate {A = ℕ} g.row.WORDS 0 in
    let w : LiteralsPassed d c.judge_literal.new.needs = worded d _ l.0 refl (omega (arith, k, long, c.judge_literal.auto.needs)) (l.1 refl (omega (arith, k, long))) in
    c.judge_overlap.ensures s.falling w
    ∙ first_passes (idle_check d) (overlap_check d ∷ []) (c.in_ok-judge_timers.ensures s o w)
    ∙ first_passes (literal_check d) (idle_check d ∷ overlap_check d ∷ []) l.0
