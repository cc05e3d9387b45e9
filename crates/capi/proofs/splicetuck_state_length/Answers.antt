-- Where the tables are accepted the rules are kept, and the length is that of the state.
use mathlib.Core.Path.{refl, sym, ◌∙◌}
use Rattle.meaning.proofs.Laws.Verdict.{accepted_exactly}
use Rattle.capi.proofs.splicetuck_state_length.Goals as goal

pub returns-in-Err : goal.returns-in-Err
returns-in-Err c =
    let e = sym c.check-verdict.ensures ∙ c.in-Err.is in
    rw e c.into-in-Err.ensures

pub returns-in-Ok : goal.returns-in-Ok
returns-in-Ok c =
    let e = sym c.check-verdict.ensures ∙ c.in-Ok.is in
    let told = c.into.ensures in
    rw e (record { number = told.number; place = told.place; length = told.length ∙ c.state_length.ensures _ refl refl ((accepted_exactly _).0 e) })
