-- With k levels behind, what is set from s up is the rest of what is set from the target up.
use Rattle.std.proofs.Common.{◌≡◌, ◌<◌, ◌-◌}
use Rattle.meaning.specs.Tables.{Tables, state_count}
use Rattle.meaning.specs.Rules.{Rules}
use Rattle.chart_moving.specs.Moves.{set_above}
use Rattle.chart_moving.proofs.set_above.Given as goal

abbrev pub invariant-loop-k : goal.invariant-loop-k
invariant-loop-k l = (c : Tables) → c.states ≡ l.t.states.now → Rules c → l.target < state_count c
    → (l.s < state_count c) × (set_above c (8 - l.k) l.s l.memory ≡ set_above c 8 l.target l.initial.memory)
