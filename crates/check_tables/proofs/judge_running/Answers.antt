-- The words of the timers that run give those of the timers that all leaves below run.
use Rattle.std.proofs.Common.{arith, ℕ, ◌≡◌, refl, length, replicate}
use Rattle.std.proofs.lemmas.List.{length-replicate, get_or-replicate}
use Rattle.meaning.proofs.Laws.Rows.{get_d_equal}
use Rattle.tables.specs.Given.{given}
use Rattle.check_tables.proofs.judge_running.Goals as goal

pub returns : goal.returns
returns g c s o w few =
    let n = g.row.STATES in
    let none : length {A = ℕ} (replicate n 0) ≡ n = length-replicate {A = ℕ} n 0 in
    let all : length {A = ℕ} (replicate n 18446744073709551615) ≡ n = length-replicate {A = ℕ} n 18446744073709551615 in
    let running = c.paired_words.ensures s.tree (omega (arith, few, none)) (λ l. get_d_equal 0 n l) in
    c.judge_idle.ensures
    (c.run_below.ensures (given c.args.t.now) refl (record { running = running; sound = s }) (omega (arith, few, all)) (λ l h. get_or-replicate {A = ℕ} n l 18446744073709551615 0 (omega (arith, h, all)))) o w
