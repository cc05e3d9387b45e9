-- What is left to write from s on, from a level on, completes what the target asks for.
use mathlib.Core.Path.{◌≡◌}
use mathlib.Core.List.{List}
use Prim.Native.Nat.{ℕ, ◌-◌, ◌≤◌, ◌<◌}
use Rattle.meaning.specs.Tables.{Tables, state_count}
use Rattle.meaning.specs.Hierarchy.{depth}
use Rattle.meaning.specs.Written.{initial_stores}
use Rattle.write_lines.specs.Fit.{PutIfRoom}
use Rattle.write_operators.specs.declared.Way.TheVariants.{Store}
use Rattle.write_bits.specs.Sent.{lines, LaidTables}
use Rattle.write_rungs.proofs.put_initials.Given as goal

abbrev pub invariant-loop-level : goal.invariant-loop-level
invariant-loop-level l =
    (l.spot.at ≤ 18446744073709551615)
    × ((c : Tables) → c.states ≡ l.t.states.now → LaidTables c l.layout → l.target < state_count c
    → (l.s < state_count c) × (l.spot.way ≡ Store)
    × ((m : List ℕ) (r : ℕ) → PutIfRoom l.out l.spot.at (lines (initial_stores c (8 - l._level) l.s)) m r
    → PutIfRoom l.initial.out l.at (lines (initial_stores c (8 - depth c l.target) l.target)) m r))
