-- With k levels behind, what is set from s down is the rest of what is set from the target down.
use Rattle.std.proofs.Common.{◌≡◌, ◌<◌, ◌-◌}
use Rattle.meaning.specs.Tables.{Tables, state_count, initial}
use Rattle.meaning.specs.Rules.{Rules}
use Rattle.chart_moving.specs.Moves.{set_below}
use Rattle.chart_moving.proofs.set_below.Given as goal

abbrev pub invariant-loop-k : goal.invariant-loop-k
invariant-loop-k l = (c : Tables) → c.states ≡ l.t.states.now → Rules c → l.target < state_count c
    → (l.s < state_count c) × (set_below (initial c) (9 - l.k) l.s l.memory ≡ set_below (initial c) 9 l.target l.initial.memory)
