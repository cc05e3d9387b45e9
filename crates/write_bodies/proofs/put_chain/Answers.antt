-- The tests of a state, or LD TRUE where it has none.
use Rattle.meaning.specs.Written.{state_tests}
use Rattle.write_bits.specs.SentLaws.{chain_put, state_tests_lem}
use Rattle.write_bodies.proofs.put_chain.Goals as goal

pub returns : goal.returns
returns c g e d h =
    let s = c.args.s in
    chain_put (state_tests g s) (rw (state_tests_lem g s) at (c.put_state-p.ensures g e d h)) c.put_true.ensures
