-- From the front the same move is found as from the move behind; j is 0, or counts a move from the state.
use Rattle.std.proofs.Common.{◌≡◌, ℕ, suc, ◌≤◌, ◌<◌, ◌/◌, length}
use Rattle.meaning.specs.Tables.{Tables, move_count, source}
use Rattle.meaning.specs.Rules.{Rules}
use Rattle.check_needs.specs.Words.{need_words}
use Rattle.check_needs.specs.WordsLaws.{Small}
use Rattle.chart_scan.specs.Choice.{read, HoldTo, last_holding, LinkedTo}
use Rattle.chart_scan.proofs.chosen_from.Given as goal

abbrev pub invariant-loop-j : goal.invariant-loop-j
invariant-loop-j l = (l.j < 65536) × ((c : Tables) → Rules c → LinkedTo c (move_count c) l.links → HoldTo c (move_count c) l.needs → move_count c ≤ length l.needs / need_words → l.s < 256 → Small l.on
    → (last_holding c (read l.on) l.s (move_count c) ≡ last_holding c (read l.on) l.s l.j) × ((i : ℕ) → l.j ≡ suc i → (i < move_count c) × (source c i ≡ l.s)))

abbrev pub decreases-loop-j : goal.decreases-loop-j
decreases-loop-j l = l.j
