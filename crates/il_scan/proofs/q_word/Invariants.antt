-- The Q of the blocks from the place on, put into the word so far, are the word of all.
use Rattle.std.proofs.Common.{◌≡◌, drop}
use Rattle.il_scan.specs.Row.{q_word}
use Rattle.il_scan.proofs.q_word.Given as goal

abbrev pub invariant-loop-i : goal.invariant-loop-i
invariant-loop-i l = q_word l.i (drop l.i l.blocks) l.qs ≡ q_word 0 l.blocks 0
