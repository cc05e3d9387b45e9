-- The three parts of a bracket, one after the other.
use Rattle.write_bodies.specs.Pairs.{bracket_of}
use mathlib.Core.List.{[], ◌∷◌, ◌++◌}
use Rattle.meaning.specs.Programs.{chain_of, part_of}
use Rattle.meaning.specs.Written.{state_tests, chain}
use Rattle.meaning.specs.declared.Operator.TheVariants.{Or, Close}
use Rattle.write_bits.specs.SentLaws.{put_cons, put_lines, put_line}
use Rattle.format.specs.Text.{line, operator_text}
use Rattle.write_bodies.proofs.put_bracket.Goals as goal

pub returns : goal.returns
unfolding bracket_of part_of line operator_text
returns c g e d h =
    let is = chain_of (chain (state_tests g c.args.s)) in
    put_cons Or (is ++ (Close ∷ [])) c.put_part-p.ensures
    (put_lines is (Close ∷ []) (c.put_chain-q.ensures g e d h) (put_line Close c.put_part.ensures))
