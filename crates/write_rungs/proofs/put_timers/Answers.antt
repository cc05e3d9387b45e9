-- One timer more is its rung more.
use mathlib.Core.Path.{◌≡◌}
use mathlib.Core.List.{flat_map}
use Prim.Native.Nat.{◌+◌, ◌<◌}
use native.Mathlib.Numerals.{add-one}
use native.Mathlib.Omega.{arith}
use Rattle.meaning.specs.Rows.{table}
use Rattle.write_bits.specs.SentLaws.{put_lines, put_nil}
use Rattle.meaning.specs.Tables.{timer_count}
use Rattle.meaning.specs.Programs.{timer_rung_of}
use Rattle.meaning.specs.Written.{timer_rung}
use Rattle.write_bodies.specs.PairLaws.{reaches_start}
use Rattle.write_rungs.specs.Sections.{timers_to}
use Rattle.write_rungs.specs.SectionLaws.{timer_pairs_lem, timers_snoc, preset_at, timer_count_lem}
use Rattle.write_rungs.proofs.put_timers.Goals as goal

pub loop-i-init : goal.loop-i-init
unfolding timers_to flat_map table
loop-i-init c g q d e f =
    let ps = c.args.t.now.timer_pairs.now in
    (reaches_start g (timer_count g) ps (timer_pairs_lem g ps d.rules f), put_nil _ _ (omega arith) (omega arith))

pub loop-i-preserved : goal.loop-i-preserved
loop-i-preserved c g q d e f =
    let t = c.args.t.now in
    let b = c.loop-i in
    let n = b.i in
    let i = b.invariant g q d e f in
    let h : n + 1 < 65536 = omega (arith, d.rules.size.few_timers, timer_count_lem g t.presets.now e) in
    let x = c.put_timer-cursor.ensures g q d f (rw (add-one n) i.0) h (preset_at g t.presets.now n e) in
    let z : 1 + n ≡ n + 1 = omega arith in
    (rw (add-one (n + 1)) at x.0, rw (add-one n, timers_snoc g n, z) (put_lines (timers_to g n) (timer_rung_of (n + 1) (timer_rung g (n + 1))) i.1 x.1))

pub returns : goal.returns
returns c g q d e f =
    let z : c.loop-i.i ≡ timer_count g = omega (arith, timer_count_lem g c.args.t.now.presets.now e) in
    rw z at (c.loop-i.invariant g q d e f).1
