-- One flip-flop more is its rung more.
use mathlib.Core.Path.{◌≡◌}
use mathlib.Core.List.{flat_map}
use Prim.Native.Nat.{◌+◌, ◌<◌}
use native.Mathlib.Numerals.{add-one}
use native.Mathlib.Omega.{arith}
use Rattle.meaning.specs.Rows.{table}
use Rattle.write_bits.specs.SentLaws.{put_lines, put_nil}
use Rattle.meaning.specs.Programs.{rung_of}
use Rattle.meaning.specs.Written.{copy_rungs}
use Rattle.write_rungs.specs.Sections.{copies_to}
use Rattle.write_rungs.specs.SectionLaws.{copies_snoc}
use Rattle.write_rungs.proofs.put_copies.Goals as goal

pub loop-b-init : goal.loop-b-init
unfolding copies_to flat_map table
loop-b-init c c' R e = put_nil _ _ (omega arith) (omega arith)

pub loop-b-preserved : goal.loop-b-preserved
loop-b-preserved c c' R e =
    let l = c.loop-b in
    let b = l.b in
    let h : c.args.total + b < 65536 = omega (arith, R.flip_flop.few) in
    let z : 0 + b ≡ b = omega arith in
    rw (add-one b, copies_snoc c' b, z) (put_lines (copies_to c' b) (flat_map rung_of (copy_rungs c' b)) (l.invariant c' R e) (c.put_copy-p.ensures c' e h))
