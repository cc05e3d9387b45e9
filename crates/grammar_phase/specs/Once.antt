-- No second answer of any function of this crate.
use Rattle.std.specs.Prelude.{◌≡◌, ℕ}
use Rattle.meaning.specs.Once.{Once}
use Rattle.meaning.proofs.Laws.Once.{is_once}
use Rattle.format.specs.declared.Phase.{Phase}
use Rattle.format.specs.declared.Reading.{Reading}
use Rattle.format.specs.Automata.Phases as Phases

pub is_at_once : (w : Phase) (s : Reading) → Once (λ r. r ≡ Phases.at w s)
is_at_once w s = is_once (Phases.at w s)

pub to_once : (w : Phase) (s : Reading) → Once (λ r. r ≡ Phases.to w s)
to_once w s = is_once (Phases.to w s)

pub begin_once : (a b : ℕ) → Once (λ r. r ≡ Phases.begin a b)
begin_once a b = is_once (Phases.begin a b)

pub load_once : (n : ℕ) (s : Reading) → Once (λ r. r ≡ Phases.load n s)
load_once n s = is_once (Phases.load n s)

pub also_once : (n : ℕ) (s : Reading) → Once (λ r. r ≡ Phases.also n s)
also_once n s = is_once (Phases.also n s)

pub opened_once : (s : Reading) → Once (λ r. r ≡ Phases.phase_opened s)
opened_once s = is_once (Phases.phase_opened s)

pub closed_once : (s : Reading) → Once (λ r. r ≡ Phases.phase_closed s)
closed_once s = is_once (Phases.phase_closed s)

pub store_once : (s : Reading) → Once (λ r. r ≡ Phases.store s)
store_once s = is_once (Phases.store s)

pub alive_once : (s : Reading) → Once (λ r. r ≡ Phases.alive s)
alive_once s = is_once (Phases.alive s)

pub may_end_once : (s : Reading) → Once (λ r. r ≡ Phases.may_end s)
may_end_once s = is_once (Phases.may_end s)
