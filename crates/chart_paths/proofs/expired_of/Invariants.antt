-- So far as the loop has come, the word has the expired timers.
use Rattle.std.proofs.Common.{◌≡◌, ◌&&◌, ℕ, suc}
use lib.Dec.{ltb}
use Rattle.meaning.specs.Literals.{input_on}
use Rattle.tables.specs.Given.{given}
use Rattle.chart_paths.specs.Words.{expired_at}
use Rattle.chart_paths.proofs.expired_of.Given as goal

abbrev pub invariant-loop-i : goal.invariant-loop-i
invariant-loop-i l = (j : ℕ) → input_on l.word (suc j) ≡ (ltb j l.i && expired_at (given l.t).presets l.running l.timers j)
