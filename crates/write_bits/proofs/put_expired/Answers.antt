-- The operator, and the rest of the line on a timer.
use mathlib.Core.List.{append_assoc}
use Rattle.format.specs.Text.{line, operand_text}
use Rattle.meaning.specs.declared.Operand.TheVariants.{TimerQ}
use Rattle.write_bits.specs.Sent.{way_after}
use Rattle.write_bits.specs.SentLaws.{one_put}
use Rattle.write_bits.proofs.put_expired.Goals as goal

pub returns : goal.returns
unfolding way_after line operand_text
returns c =
    let a = c.args in
    let p = c.put_operator-p.ensures in
    record { put = one_put a.spot.way a.wanted (TimerQ a.n) p.0 (simp append_assoc c.put_named.ensures); way = p.1 }
