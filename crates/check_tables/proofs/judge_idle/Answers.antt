-- The words of the moves and those of the states tell which timers are idle.
use Rattle.std.proofs.Common.{sym, rules, arith, ◌<◌, ◌/◌, length}
use Rattle.meaning.specs.Tables.{state_count, move_count, source}
use Rattle.tables.specs.Given.{given}
use Rattle.check_needs.specs.Words.{need_words, WordsAt}
use Rattle.check_tables.specs.Verdicts.{idle_check}
use Rattle.check_tables.proofs.judge_idle.Goals as goal

pub returns : goal.returns
returns c below o w =
    let d = given c.args.t.now in
    let n = c.args.needs.now in
    c.judge.ensures (idle_check d) (sym c.move_count.ensures)
    (λ i h b p.
    let k : i < move_count d = omega (arith, h, c.move_count.ensures) in
    let g : i < length n / need_words = omega (arith, w.room, h, c.move_count.ensures) in
    let x : WordsAt d i n = w.words i k in
    let y : source d i < state_count d = o i k in
    search (rules, below, y, g, x))
    (λ i h r p. search rules)
