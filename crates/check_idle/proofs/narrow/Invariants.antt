-- After k levels s is k above l, and the k states that were passed are narrowed.
use mathlib.Core.Path.{◌≡◌}
use mathlib.Core.Bool.{not, ◌&&◌, ◌||◌}
use Prim.Native.Nat.{ℕ, ◌<◌}
use lib.ListN.{length, get_or}
use lib.Dec.{eqb}
use Rattle.meaning.specs.Rows.{some}
use Rattle.meaning.specs.Hierarchy.{up}
use Rattle.meaning.specs.Literals.{input_on}
use Rattle.tables.specs.Given.{given}
use Rattle.check_idle.proofs.narrow.Given as goal

abbrev pub invariant-loop-k : goal.invariant-loop-k
invariant-loop-k l = record {
  long : length l.words ≡ length l.initial.words;
  here : l.s ≡ up (given l.t) l.k l.l;
  narrowed : (n x : ℕ) → x < length l.initial.words → input_on (get_or l.words x 0) n
      ≡ (input_on (get_or l.initial.words x 0) n && (not (some (λ j. eqb (up (given l.t) j l.l) x) 0 l.k) || input_on l.w n));
}
