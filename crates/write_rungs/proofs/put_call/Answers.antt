-- Its four lines, one after the other.
use mathlib.Core.List.{[], ◌∷◌}
use Rattle.meaning.specs.declared.Operand.TheVariants.{TimerIn, TimerPt, Timer}
use Rattle.meaning.specs.declared.Operator.TheVariants.{St, Cal, LdTime}
use Rattle.write_bits.specs.SentLaws.{put_cons, put_line}
use Rattle.format.specs.Text.{bytes, line, operator_text, operand_text}
use Rattle.write_rungs.specs.RungLaws.{block_line_lem}
use Rattle.write_rungs.proofs.put_call.Goals as goal

pub returns : goal.returns
unfolding line operator_text operand_text
returns c =
    let n = c.args.n in
    let time = c.args.time in
    put_cons (St (TimerIn n)) (LdTime time ∷ St (TimerPt n) ∷ Cal (Timer n) ∷ []) (block_line_lem (bytes "ST ") (bytes ".IN") n c.put_on_block-p.ensures)
    (put_cons (LdTime time) (St (TimerPt n) ∷ Cal (Timer n) ∷ []) c.put_time-q.ensures
    (put_cons (St (TimerPt n)) (Cal (Timer n) ∷ []) (block_line_lem (bytes "ST ") (bytes ".PT") n c.put_on_block-next.ensures)
    (put_line (Cal (Timer n)) c.put_on_block.ensures)))
