-- Each form that is met is its line, by KindLaws; where none is met, the second byte is no T, and no line is.
use native.Mathlib.Omega.{arith}
use Rattle.std.proofs.lemmas.Grind.{common_steps}
use Rattle.read_line.specs.KindLaws.{store_s, store_r, no_store}
use Rattle.read_line.proofs.store_of.Goals as goal

pub returns-in-Some : goal.returns-in-Some
returns-in-Some c = store_s c.in-Some.ensures

pub returns-in-Some-numbered : goal.returns-in-Some-numbered
returns-in-Some-numbered c = store_r c.in-Some-numbered.ensures

pub returns : goal.returns
returns c = no_store c.requires (λ e. grind (arith, common_steps)) c.in_default-numbered.ensures c.in_default-numbered-2.ensures
