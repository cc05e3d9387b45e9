-- The codes of the states so far are there, and what they remember is n; the states ahead remember nothing.
use Rattle.std.proofs.Common.{◌≡◌, ℕ, ◌≤◌, ◌<◌, length, get_or, cond}
use Rattle.meaning.specs.Tables.{Tables, state_count}
use Rattle.meaning.specs.Hierarchy.{is_leaf}
use Rattle.meaning.specs.Rules.{Rules}
use Rattle.meaning.specs.Lent.{super_states_below}
use Rattle.chart_state_read.specs.Codes.{Wanted}
use Rattle.chart_state_read.proofs.want_all.Given as goal

abbrev pub invariant-loop-a : goal.invariant-loop-a
invariant-loop-a l =
    (l.at ≤ l.a)
    × ((d : Tables) → d.states ≡ l.t.states.now → Rules d → state_count d ≤ length l.initial.wants → state_count d ≤ length l.initial.memory → ((s : ℕ) → get_or l.initial.memory s 0 ≡ 0)
    → (l.at ≡ super_states_below d l.a) × Wanted d l.state l.a l.wants
    × ((j : ℕ) → j < l.a → get_or l.memory j 0 ≡ cond (is_leaf d j) 0 l.n) × ((j : ℕ) → l.a ≤ j → get_or l.memory j 0 ≡ 0))
