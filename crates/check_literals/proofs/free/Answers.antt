-- The bit of n in either word says whether n was named before.
use native.Mathlib.Omega.{arith}
use Rattle.std.proofs.lemmas.Grind.{common_steps}
use mathlib.Core.Path.{◌≡◌, ap}
use mathlib.Core.Bool.{not, false}
use Rattle.meaning.specs.Literals.{input_on}
use Rattle.meaning.proofs.Laws.Bits.{or_bit}
use Rattle.check_literals.proofs.free.Goals as goal

pub returns-then-n-le64 : goal.returns-then-n-le64
unfolding input_on
returns-then-n-le64 c h k =
    let a = c.args in
    let e : a.ended ≡ false = grind (arith, common_steps) in
    rw e (ap not (or_bit a.p a.q a.n))
