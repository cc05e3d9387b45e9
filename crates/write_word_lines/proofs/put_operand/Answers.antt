-- Each range of numbers has one operand, by Laws.Operands; its line is what was put.
use native.Mathlib.Omega.{arith}
use mathlib.Core.List.{append_assoc}
use Rattle.format.specs.Text.{line, operand_text}
use Rattle.format.specs.Decode.{operand_of}
use Rattle.format.proofs.Laws.Operands.{operand_mx, operand_ix, operand_qx, operand_timer_q, operand_timer_in, operand_timer_pt, operand_timer, operand_none}
use Rattle.write_word_lines.proofs.put_operand.Goals as goal

pub returns-in-2000 : goal.returns-in-2000
unfolding operand_of operand_text line
returns-in-2000 c = rw c.in-2000.is c.put_part.ensures

pub returns-in-2001 : goal.returns-in-2001
unfolding operand_of operand_text line
returns-in-2001 c = rw c.in-2001.is c.put_part-in-2001.ensures

pub returns-in-0-to-384 : goal.returns-in-0-to-384
returns-in-0-to-384 c = rw (operand_mx c.args.m (omega arith)) c.put_mx.ensures

pub returns-in-385-to-512 : goal.returns-in-385-to-512
returns-in-385-to-512 c = rw (operand_ix c.args.m (omega arith) (omega arith)) c.put_ix.ensures

pub returns-in-513-to-768 : goal.returns-in-513-to-768
returns-in-513-to-768 c = rw (operand_qx c.args.m (omega arith) (omega arith)) c.put_qx.ensures

pub returns-in-769-to-1024 : goal.returns-in-769-to-1024
unfolding line operand_text
returns-in-769-to-1024 c = rw (operand_timer_q c.args.m (omega arith) (omega arith)) (simp append_assoc c.put_named.ensures)

pub returns-in-1025-to-1280 : goal.returns-in-1025-to-1280
unfolding line operand_text
returns-in-1025-to-1280 c = rw (operand_timer_in c.args.m (omega arith) (omega arith)) (simp append_assoc c.put_named-in-1025-to-1280.ensures)

pub returns-in-1281-to-1536 : goal.returns-in-1281-to-1536
unfolding line operand_text
returns-in-1281-to-1536 c = rw (operand_timer_pt c.args.m (omega arith) (omega arith)) (simp append_assoc c.put_named-in-1281-to-1536.ensures)

pub returns-in-1537-to-1999 : goal.returns-in-1537-to-1999
unfolding line operand_text
returns-in-1537-to-1999 c = rw (operand_timer c.args.m (omega arith) (omega arith)) c.put_named-in-1537-to-1999.ensures

pub returns-in_default : goal.returns-in_default
unfolding line operand_text
returns-in_default c = rw (operand_none c.args.m (omega arith)) c.put_named-in_default.ensures
