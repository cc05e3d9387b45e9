-- The groups above the target lead to it; a plain move sets the initial path below it too.
use mathlib.Core.List.{append-nil}
use Rattle.meaning.specs.Hierarchy.{depth}
use Rattle.meaning.specs.Written.{path_bits, bit_store, initial_stores, stores_from}
use Prim.Native.Nat.{◌-◌}
use Rattle.write_bits.specs.SentLaws.{put_lines}
use Rattle.write_rungs.specs.RungLaws.{path_put, no_stores}
use Rattle.write_rungs.proofs.put_stores.Goals as goal

pub returns-then-mark-eq0 : goal.returns-then-mark-eq0
unfolding stores_from
returns-then-mark-eq0 c g q d h =
    let t = c.args.target in
    rw c.if-mark-eq0.true
    (put_lines (path_bits g (bit_store g) (depth g t) t) (initial_stores g (8 - depth g t) t)
    (path_put d (depth g t) t (c.put_state-p.ensures g q d h)) (c.put_initials.ensures g q d h))

pub returns-else-mark-eq0 : goal.returns-else-mark-eq0
returns-else-mark-eq0 c g q d h =
    let a = c.args in
    rw (no_stores g a.mark a.target c.if-mark-eq0.false, append-nil) (path_put d (depth g a.target) a.target (c.put_state-p.ensures g q d h))
