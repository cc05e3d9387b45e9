-- The body over the pairs of the timer, and its four lines.
use mathlib.Core.Path.{◌≡◌}
use Prim.Native.Nat.{◌%◌}
use native.Mathlib.Omega.{arith}
use Rattle.meaning.specs.Tables.{timer_count}
use Rattle.meaning.specs.Programs.{body_of}
use Rattle.meaning.specs.Written.{pairs_body}
use Rattle.write_bits.specs.SentLaws.{put_lines}
use Rattle.write_rungs.specs.Rungs.{call_of}
use Rattle.write_rungs.specs.SectionLaws.{timer_pairs_lem, timer_lines}
use Rattle.write_rungs.proofs.put_timer.Goals as goal

pub returns : goal.returns
returns c g q d e F h k =
    let a = c.args in
    let ps = a.t.now.timer_pairs.now in
    let x = c.put_pairs-body.ensures g q d (timer_count g) (timer_pairs_lem g ps d.rules e) F in
    let m : a.n % 65536 ≡ a.n = omega arith in
    (x.0, rw (← timer_lines g ps a.n a.time e k) (put_lines (body_of (pairs_body g ps a.n)) (call_of a.n a.time) x.1 (rw m at c.put_call.ensures)))
