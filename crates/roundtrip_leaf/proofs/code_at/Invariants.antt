-- The code of the bits from i on.
use Rattle.std.proofs.Common.{◌≡◌, ◌≤◌, ◌<◌, ◌+◌, ◌-◌}
use Rattle.meaning.specs.Stands.{code_at}
use Rattle.roundtrip_leaf.proofs.code_at.Given as goal

abbrev pub invariant-loop-i : goal.invariant-loop-i
invariant-loop-i l = (l.i ≤ l.width) × (l.width ≤ 8) × (l.code < 256) × (l.code ≡ code_at l.flip_flops (l.first + l.i) (l.width - l.i))
