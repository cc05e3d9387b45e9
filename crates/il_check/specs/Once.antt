-- No second answer of the checks before a run, nor of whether a verdict accepts.
use Rattle.std.specs.Prelude.{◌≡◌, Bool, List, ℕ}
use Rattle.meaning.specs.Once.{Once}
use Rattle.meaning.proofs.Laws.Once.{is_once}
use Rattle.meaning.specs.Refusals.{Verdict}
use Rattle.il_check.specs.Judged.{JudgedBy, judged_same, is_accepted}

pub judge_once : (step : ℕ) (ws fs : List ℕ) (n : ℕ) (timely : Bool) (scans results : ℕ) → Once (λ r. JudgedBy step ws fs n timely scans results r)
judge_once step ws fs n timely scans results u v p q = judged_same p q

-- no second answer meets the definition
pub accepted_once : (v : Verdict) → Once (λ r. r ≡ is_accepted v)
accepted_once v = is_once (is_accepted v)
