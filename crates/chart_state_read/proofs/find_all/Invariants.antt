-- What the states from s on have, their super-states remember.
use Rattle.std.proofs.Common.{◌≡◌, ℕ, ◌≤◌, List, length}
use Rattle.meaning.specs.Tables.{Tables, state_count}
use Rattle.meaning.specs.Rules.{Rules}
use Rattle.chart_state_read.specs.Codes.{CodesStand, Wanted, Found}
use Rattle.chart_state_read.proofs.find_all.Given as goal

abbrev pub invariant-loop-s : goal.invariant-loop-s
invariant-loop-s v =
    (d : Tables) (l : List ℕ) → d.states ≡ v.t.states.now → Rules d → state_count d ≤ length v.initial.memory → CodesStand d v.codes → Wanted d l (state_count d) v.wants → Found d l (state_count d) v.initial.memory
    → (1 ≤ v.s) × Found d l v.s v.memory
