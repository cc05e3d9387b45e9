-- After i moves their lines stand below the line of names.
use Rattle.std.proofs.Common.{arith}
use mathlib.Core.Path.{◌≡◌}
use mathlib.Core.List.{flat_map}
use Prim.Native.Nat.{◌+◌, ◌<◌}
use native.Mathlib.Numerals.{add-one}
use Rattle.meaning.specs.Rows.{table}
use Rattle.meaning.proofs.Laws.Rows.{rows_snoc}
use Rattle.meaning.specs.Tables.{move_count}
use Rattle.tables.specs.Given.{given}
use Rattle.format.specs.Text.{line}
use Rattle.format.specs.NeedsTable.{needs_line, needs_table}
use Rattle.write_lines.specs.Put.{put_put, put_none}
use Rattle.print_needs.proofs.put_table.Goals as goal

pub loop-i-init : goal.loop-i-init
unfolding table flat_map
loop-i-init c g = put_none _ _ (omega arith) (omega arith)

pub loop-i-preserved : goal.loop-i-preserved
loop-i-preserved c g =
    let b = c.loop-i in
    let d = given c.args.t.now in
    let z : 0 + b.i ≡ b.i = omega arith in
    let h : b.i < move_count d = omega (arith, c.move_count-i-end.ensures) in
    rw (add-one, rows_snoc (needs_line d) 0 b.i, z) (put_put (b.invariant g) (c.put_move-p.ensures (g b.i h)))

pub returns : goal.returns
unfolding needs_table line
returns c g =
    let b = c.loop-i in
    let e : b.i ≡ move_count (given c.args.t.now) = omega (arith, c.move_count-i-end.ensures) in
    rw (← e) (put_put c.put_bytes-p.ensures (b.invariant g))
