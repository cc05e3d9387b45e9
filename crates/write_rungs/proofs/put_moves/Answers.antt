-- One move more is its rung more.
use mathlib.Core.Path.{◌≡◌}
use mathlib.Core.List.{flat_map}
use Prim.Native.Nat.{◌+◌, ◌<◌}
use native.Mathlib.Numerals.{add-one}
use native.Mathlib.Omega.{arith}
use Rattle.meaning.specs.Rows.{table}
use Rattle.write_bits.specs.SentLaws.{put_lines, put_nil}
use Rattle.meaning.specs.Tables.{move_count}
use Rattle.meaning.specs.Programs.{rung_of}
use Rattle.meaning.specs.Written.{move_rungs}
use Rattle.tables.specs.Given.{given}
use Rattle.tables.specs.Same.{move_count_same}
use Rattle.write_rungs.specs.Sections.{moves_to}
use Rattle.write_rungs.specs.SectionLaws.{moves_snoc}
use Rattle.write_rungs.proofs.put_moves.Goals as goal

pub loop-i-init : goal.loop-i-init
unfolding moves_to flat_map table
loop-i-init c g q d e = put_nil _ _ (omega arith) (omega arith)

pub loop-i-preserved : goal.loop-i-preserved
loop-i-preserved c g q d e =
    let b = c.loop-i in
    let i = b.i in
    let h : i < move_count g = omega (arith, c.move_count-i-end.ensures, move_count_same g (given c.args.t.now) e) in
    let z : 0 + i ≡ i = omega arith in
    rw (add-one i, moves_snoc g i, z) (put_lines (moves_to g i) (flat_map rung_of (move_rungs g i)) (b.invariant g q d e) (c.put_move-p.ensures g q d e h))

pub returns : goal.returns
returns c g q d e =
    let z : c.loop-i.i ≡ move_count g = omega (arith, c.move_count-i-end.ensures, move_count_same g (given c.args.t.now) e) in
    rw z at (c.loop-i.invariant g q d e)
