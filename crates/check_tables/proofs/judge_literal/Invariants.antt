-- The moves below i pass, and what they need is in their words.
use Rattle.check_needs.specs.Words.{need_words, WordsTo}
use Rattle.meaning.specs.Check.{literal_passes}
use Rattle.meaning.specs.Tables.{move_count}
use Rattle.tables.specs.Given.{given}
use lib.ListN.{length}
use mathlib.Core.Bool.{true}
use mathlib.Core.Path.{◌≡◌}
use Prim.Native.Nat.{ℕ, ◌≤◌, ◌<◌, ◌/◌}
use Rattle.check_tables.proofs.judge_literal.Given as goal

abbrev pub invariant-loop-i : goal.invariant-loop-i
invariant-loop-i l = record {
  long : length l.needs ≡ length l.initial.needs;
  pass : (m : ℕ) → m < l.i → literal_passes (given l.t) m ≡ true;
  words : move_count (given l.t) ≤ length l.initial.needs / need_words → WordsTo (given l.t) l.i l.needs;
}
