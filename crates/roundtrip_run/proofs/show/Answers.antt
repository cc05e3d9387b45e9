-- The leaf is a number of a state, so it fits its place.
use native.Mathlib.Omega.{arith}
use Rattle.roundtrip_run.proofs.show.Goals as goal

pub returns : goal.returns
returns c = (c.put.ensures, λ c' e R o. let r = c.laid_leaf-leaf.ensures c' e R o in rw r.0 at (c.remember.ensures (omega (arith, r.1))))
