-- s is k levels above the leaf, and no move from a state below it holds.
use Rattle.std.proofs.Common.{◌≡◌, ℕ, ◌≤◌, ◌<◌, ◌/◌, length}
use Rattle.meaning.specs.Tables.{Tables, move_count}
use Rattle.meaning.specs.Hierarchy.{up}
use Rattle.meaning.specs.Rules.{Rules}
use Rattle.check_needs.specs.Words.{need_words}
use Rattle.check_needs.specs.WordsLaws.{Small}
use Rattle.chart_scan.specs.Choice.{read, HoldTo, last_holding, LinkedTo}
use Rattle.chart_scan.proofs.chosen.Given as goal

abbrev pub invariant-loop-k : goal.invariant-loop-k
invariant-loop-k l = (c : Tables) → c.states ≡ l.t.states.now → Rules c → LinkedTo c (move_count c) l.links → HoldTo c (move_count c) l.needs
    → move_count c ≤ length l.needs / need_words → l.l < 256 → Small l.on
    → (l.s ≡ up c l.k l.l) × ((m : ℕ) → m < l.k → last_holding c (read l.on) (up c m l.l) (move_count c) ≡ 0)
