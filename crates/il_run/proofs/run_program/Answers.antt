-- What is refused is refused by the checks, and what is not is run.
use Rattle.std.proofs.Common.{refl}
use Rattle.std.proofs.lemmas.Result.{err_from_is_err_and}
use Rattle.il_run.specs.RunLaws.{run_done, run_refused}
use Rattle.il_run.proofs.run_program.Goals as goal

pub returns-in_err-judge : goal.returns-in_err-judge
returns-in_err-judge c =
    let p = err_from_is_err_and c.from_residual.result c.from_residual.ensures.1 in
    rw (p.1, p.2) (run_refused c.in_time-timely.ensures c.in_err-judge.ensures)

pub returns : goal.returns
returns c = run_done c.in_time-timely.ensures c.in_ok-judge.ensures c.run.ensures.0 c.run.ensures.1 refl
