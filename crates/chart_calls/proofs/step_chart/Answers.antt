-- A scan is a run of one: it is refused as that is, and tells what that left in the results.
use Rattle.std.proofs.lemmas.Result.{err_from_is_err_and}
use Rattle.chart_calls.specs.StepLaws.{done_one, refused_one}
use Rattle.chart_calls.proofs.step_chart.Goals as goal

pub returns-in_err-run_chart : goal.returns-in_err-run_chart
returns-in_err-run_chart c = let p = err_from_is_err_and c.from_residual.result c.from_residual.ensures.1 in rw (p.1, p.2) (refused_one _ _ _ _ _ _ _ _ _ _ c.in_err-run_chart.was c.run_chart.ensures)

pub returns : goal.returns
returns c = done_one _ _ _ _ _ _ _ _ _ _ c.in_ok-run_chart.was c.run_chart.ensures
