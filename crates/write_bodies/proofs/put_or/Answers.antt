-- The first row as it stands, and a bracket for each further one.
use mathlib.Core.Path.{◌≡◌}
use mathlib.Core.List.{flat_map}
use Prim.Native.Nat.{suc, ◌+◌, ◌-◌}
use native.Mathlib.Numerals.{add-one}
use native.Mathlib.Omega.{arith}
use Rattle.meaning.specs.Rows.{table}
use Rattle.meaning.specs.Tables.{pair_state}
use Rattle.meaning.specs.Programs.{load_of, chain_of, body_of}
use Rattle.meaning.specs.Written.{state_tests, chain, or_body}
use Rattle.meaning.specs.declared.Operand.TheVariants.{False}
use Rattle.meaning.specs.declared.Operator.TheVariants.{Ld}
use Rattle.write_bits.specs.SentLaws.{put_lines, put_line}
use Rattle.write_bodies.specs.Pairs.{brackets, or_of}
use Rattle.write_bodies.specs.PairLaws.{or_first}
use Rattle.format.specs.Text.{line, operator_text, operand_text}
use Rattle.write_bodies.proofs.put_or.Goals as goal

pub returns-then-to-from : goal.returns-then-to-from
unfolding or_of table body_of or_body flat_map load_of line operator_text operand_text
returns-then-to-from c g q d k =
    let a = c.args in
    let e : a.to - a.from ≡ 0 = omega arith in
    rw e (put_line (Ld False) c.put_part.ensures)

pub returns : goal.returns
returns c g q d k =
    let a = c.args in
    let ps = a.pairs.now in
    let e : a.to - (a.from + 1) ≡ a.to - a.from - 1 = omega arith in
    let s = c.pair_state.ensures in
    rw (or_first g ps a.from (a.to - a.from) (λ z. omega arith))
    (put_lines (chain_of (chain (state_tests g (pair_state ps a.from)))) (brackets g ps (suc a.from) (a.to - a.from - 1))
    (rw s at (c.put_chain-p.ensures g q d (rw s (k a.from (omega arith) (omega arith)))))
    (rw (e, add-one a.from) at (c.put_brackets.ensures g q d (λ i u v. k i (omega arith) v))))
