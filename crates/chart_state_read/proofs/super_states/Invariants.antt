-- So far as the loop has come, n counts the super-states.
use Rattle.std.proofs.Common.{◌≡◌, ◌≤◌}
use Rattle.meaning.specs.Tables.{Tables}
use Rattle.meaning.specs.Rules.{Rules}
use Rattle.meaning.specs.Lent.{super_states_below}
use Rattle.chart_state_read.proofs.super_states.Given as goal

abbrev pub invariant-loop-a : goal.invariant-loop-a
invariant-loop-a l = (l.n ≤ l.a) × ((d : Tables) → d.states ≡ l.t.states.now → Rules d → l.n ≡ super_states_below d l.a)
