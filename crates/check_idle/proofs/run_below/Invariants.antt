-- After l states the words are narrowed by the leaves among them.
use mathlib.Core.Path.{◌≡◌}
use Prim.Native.Nat.{ℕ, ◌≤◌, ◌<◌}
use lib.ListN.{length, get_or}
use Rattle.meaning.specs.Rows.{every}
use Rattle.meaning.specs.Tables.{Tables}
use Rattle.meaning.specs.Literals.{input_on}
use Rattle.check_idle.specs.Leaves.{TimersKnown, leaf_runs, Full}
use Rattle.check_idle.proofs.run_below.Given as goal

abbrev pub invariant-loop-l : goal.invariant-loop-l
invariant-loop-l l = record {
  long : length l.words ≡ length l.initial.words;
  narrowed : (c : Tables) → c.states ≡ l.t.states.now → TimersKnown c l.running → Full l.initial.words
      → (n x : ℕ) → 1 ≤ n → n ≤ 64 → x < length l.initial.words
      → input_on (get_or l.words x 0) n ≡ every (leaf_runs c n x) 0 l.l;
}
