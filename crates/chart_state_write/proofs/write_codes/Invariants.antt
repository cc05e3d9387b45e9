-- The codes of the states so far stand in front.
use Rattle.std.proofs.Common.{◌≡◌, ◌≤◌, length, take}
use Rattle.meaning.specs.Tables.{Tables, state_count}
use Rattle.meaning.specs.Rules.{Rules}
use Rattle.meaning.specs.Lent.{super_states_below}
use Rattle.chart_state_read.specs.Codes.{codes_in}
use Rattle.chart_state_write.proofs.write_codes.Given as goal

abbrev pub invariant-loop-a : goal.invariant-loop-a
invariant-loop-a l =
    (l.at ≤ l.a)
    × ((d : Tables) → d.states ≡ l.t.states.now → Rules d → super_states_below d (state_count d) ≤ length l.initial.state
    → (l.at ≡ super_states_below d l.a) × (take l.at l.state ≡ codes_in d l.codes l.memory l.a))
