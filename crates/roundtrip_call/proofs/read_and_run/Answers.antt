-- A text that was written is read, and its words are run.
use native.Mathlib.Omega.{arith}
use mathlib.Core.Path.{refl}
use Rattle.tables.specs.Given.{given}
use Rattle.roundtrip_call.specs.WholeLaws.{read_fits, read_refused, words_front, read_done}
use Rattle.roundtrip_call.proofs.read_and_run.Goals as goal

pub slice_bounds-run_words-end : goal.slice_bounds-run_words-end
slice_bounds-run_words-end c = omega (arith, read_fits _ c.read.ensures c.in_ok-n.was, c.read.auto.out)

pub returns-in_err-n : goal.returns-in_err-n
returns-in_err-n c R f h p q = absurd (read_refused (given c.args.t.now) R _ _ _ _ f h c.read.ensures _ c.in_err-n.was)

pub returns : goal.returns
returns c R f h p q =
    let d = given c.args.t.now in
    let t = c.read.ensures in
    let g = c.in_ok-n.was in
    read_done d R _ _ _ _ f h t _ g _ _ _ (c.run_words.ensures d refl refl R (words_front d R _ _ _ _ f h t _ g) p q)
