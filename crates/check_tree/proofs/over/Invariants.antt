-- up is what stands k levels above s, and nothing below that is a.
use Rattle.std.proofs.Common.{◌≡◌, ℕ, ◌<◌, false, eqb}
use Rattle.meaning.specs.Hierarchy.{up}
use Rattle.tables.specs.Given.{given}
use Rattle.check_tree.proofs.over.Given as goal

abbrev pub invariant-loop-k : goal.invariant-loop-k
invariant-loop-k l = (l.up ≡ up (given l.t) l._k l.s) × ((j : ℕ) → j < l._k → eqb (up (given l.t) j l.s) l.a ≡ false)
