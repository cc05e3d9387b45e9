-- Every move before j is told apart from move i: by a clash of their words, or by sources that are not near.
use mathlib.Core.Path.{◌≡◌}
use mathlib.Core.Bool.{false}
use Prim.Native.Nat.{ℕ, suc, ◌≤◌, ◌<◌, ◌-◌, ◌/◌}
use lib.ListN.{length}
use Rattle.meaning.specs.Needs.{clash}
use Rattle.meaning.specs.Check.{overlaps}
use Rattle.tables.specs.Given.{given}
use Rattle.check_tree.specs.Falling.{Falling}
use Rattle.check_needs.specs.Words.{need_words, WordsTo}
use Rattle.check_overlap.proofs.earlier.Given as goal

abbrev pub invariant-loop-j : goal.invariant-loop-j
invariant-loop-j l = record {
  within : l.j ≤ l.i;
  apart : Falling (given l.t) → l.i < length l.words / need_words → WordsTo (given l.t) (suc l.i) l.words
      → ((m : ℕ) → m < l.j → overlaps (given l.t) l.i m ≡ false) × (l.j < l.i → clash (given l.t) l.i l.j ≡ false);
}

abbrev pub decreases-loop-j : goal.decreases-loop-j
decreases-loop-j l = l.i - l.j
