-- No second answer of any function of this crate.
use Rattle.std.specs.Prelude.{◌≡◌, ℕ}
use Rattle.meaning.specs.Once.{Once}
use Rattle.meaning.proofs.Laws.Once.{is_once}
use Rattle.meaning.specs.declared.Operator.{Operator}
use Rattle.format.specs.declared.Reading.{Reading}
use Rattle.format.specs.Decode.{decoded}
use Rattle.format.specs.Automata.Phases as Phases

pub step_once : (s : Reading) (i : Operator) → Once (λ r. r ≡ Phases.phase_step s i)
step_once s i = is_once (Phases.phase_step s i)

pub step_near_once : (s : Reading) (w : ℕ) → Once (λ r. r ≡ Phases.step_word s (decoded w))
step_near_once s w = is_once (Phases.step_word s (decoded w))
