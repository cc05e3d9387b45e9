-- None has a code before state 1, since the root has none.
use Rattle.std.proofs.Common.{◌∙◌, arith}
use Rattle.meaning.specs.Layout.{other_sub_state}
use Rattle.tables.specs.Given.{given}
use Rattle.layout.specs.Laid.{laid_states, row, given_code}
use Rattle.layout.specs.LaidLaws.{tally_start, row_start, code_root, all_done}
use Rattle.layout.proofs.codes_of.Goals as goal

pub loop-s-init : goal.loop-s-init
loop-s-init c =
    let d = given c.args.t.now in
    let r = code_root d in
    (omega arith, tally_start (other_sub_state d) ∙ r.0, row_start (given_code d) ∙ r.1)

pub returns : goal.returns
returns c =
    let d = given c.args.t.now in
    let b = c.loop-s in
    let n = c.laid_states-s-end.ensures.2 in
    b.invariant.2 ∙ all_done (row (given_code d)) b.s (laid_states d) (code_root d).1 (omega arith) (omega arith) (omega arith)
