-- What the check refuses is not run; what it accepts keeps the rules, and the later checks decide.
use Rattle.std.proofs.lemmas.Result.{err_from_is_err_and}
use Rattle.std.proofs.Common.{refl, sym, ◌∙◌}
use Rattle.meaning.proofs.Laws.Verdict.{accepted_exactly}
use Rattle.tables.specs.Given.{given}
use Rattle.chart_calls.specs.Runs.{refused_tables, accepted_tables}
use Rattle.chart_calls.proofs.run_chart.Goals as goal

pub returns-in_err-check : goal.returns-in_err-check
returns-in_err-check c = let p = err_from_is_err_and c.from_residual.result c.from_residual.ensures.1 in rw (p.1, p.2) (refused_tables _ _ _ _ _ _ (sym c.check.ensures ∙ c.in_err-check.was))

pub returns : goal.returns
returns c =
    let e = sym c.check.ensures ∙ c.in_ok-check.was in
    accepted_tables _ _ _ _ _ _ _ _ _ e (c.run_checked.ensures (given c.args.t.now)
    (record { step = refl; outputs = refl; lent = record { states = refl; moves = refl; presets = refl; timer_pairs = refl; output_pairs = refl } }) ((accepted_exactly _).0 e))
