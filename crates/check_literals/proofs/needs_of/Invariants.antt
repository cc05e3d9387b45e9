-- After k places a has what they need, and they pass, in any tables with these counts and moves.
use mathlib.Core.Path.{◌≡◌}
use mathlib.Core.Bool.{true}
use Prim.Native.Nat.{ℕ, ◌<◌}
use Rattle.meaning.specs.Tables.{Tables, timer_count}
use Rattle.meaning.specs.Check.{place_passes}
use Rattle.check_literals.specs.Places.{PlacesRead}
use Rattle.check_literals.proofs.needs_of.Given as goal

abbrev pub invariant-loop-k : goal.invariant-loop-k
invariant-loop-k l =
    (c : Tables) → c.inputs ≡ l.counts.inputs → timer_count c ≡ l.counts.timers → c.moves ≡ l.t.moves.now
    → PlacesRead c l.i l.k l.a × ((m : ℕ) → m < l.k → place_passes c l.i m ≡ true)
