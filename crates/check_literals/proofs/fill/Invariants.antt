-- After i moves their words are in the slice.
use mathlib.Core.Path.{◌≡◌}
use Prim.Native.Nat.{◌≤◌, ◌/◌}
use lib.ListN.{length}
use Rattle.meaning.specs.Tables.{Tables, move_count, timer_count}
use Rattle.check_needs.specs.Words.{need_words, WordsTo}
use Rattle.check_literals.specs.Places.{LiteralsPass}
use Rattle.check_literals.proofs.fill.Given as goal

abbrev pub invariant-loop-i : goal.invariant-loop-i
invariant-loop-i l = record {
  long : length l.words ≡ length l.initial.words;
  done : (c : Tables) → c.inputs ≡ l.counts.inputs → timer_count c ≡ l.counts.timers → c.moves ≡ l.t.moves.now
      → LiteralsPass c → move_count c ≤ length l.initial.words / need_words → WordsTo c l.i l.words;
}
