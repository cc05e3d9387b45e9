-- The words of the moves tell which overlap.
use Rattle.std.proofs.Common.{sym, rules, arith, ◌<◌, ◌/◌, length, suc}
use Rattle.tables.specs.Given.{given}
use Rattle.check_needs.specs.Words.{need_words, WordsTo}
use Rattle.check_tables.specs.Verdicts.{overlap_check, words_first}
use Rattle.check_tables.proofs.judge_overlap.Goals as goal

pub returns : goal.returns
returns c falls w =
    let d = given c.args.t.now in
    c.judge.ensures (overlap_check d) (sym c.move_count.ensures)
    (λ i h b p.
    let g : i < length c.args.needs.now / need_words = omega (arith, w.room, h, c.move_count.ensures) in
    let x : WordsTo d (suc i) c.args.needs.now = words_first d c.args.needs.now w i (omega (arith, h, c.move_count.ensures)) in
    search (rules, falls, g, x))
    (λ i h r p. search rules)
