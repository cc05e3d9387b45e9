-- From s, 8 - k levels lead to the leaf.
use Rattle.std.proofs.Common.{◌≡◌, ◌-◌, ◌≤◌}
use Rattle.meaning.specs.Tables.{Tables}
use Rattle.meaning.specs.Rules.{Rules}
use Rattle.meaning.specs.Machine.{descend}
use Rattle.meaning.specs.Stands.{coded_sub_state, coded_leaf}
use Rattle.layout.specs.Laid.{LaidOut}
use Rattle.roundtrip_leaf.proofs.laid_leaf.Given as goal

abbrev pub invariant-loop-k : goal.invariant-loop-k
invariant-loop-k l =
    (c : Tables) → c.states ≡ l.t.states.now → Rules c → LaidOut c l.layout
    → (descend c (coded_sub_state c l.flip_flops) (8 - l.k) l.s ≡ coded_leaf c l.flip_flops) × (l.s ≤ 256)
