-- What is made once is what the scans ask for.
use Rattle.std.proofs.Common.{sym, subst, arith}
use Rattle.meaning.proofs.Laws.Rows.{get_d_equal}
use Rattle.meaning.specs.Tables.{timer_count}
use Rattle.tables.specs.Given.{given}
use Rattle.tables.specs.Same.{state_count_same}
use Rattle.check_pairing.specs.Words.{PairedWords}
use Rattle.check_pairing.specs.SameLaws.{tree_same, paired_words_same}
use Rattle.chart_scan.specs.Held.{Made}
use Rattle.chart_scan.specs.StepLaws.{longest_made, rules_tree}
use Rattle.chart_scan.proofs.run.Goals as goal

pub returns : goal.returns
unfolding timer_count
returns c c' g R W E lm lt val p q =
    let a = c.args in
    let d = given a.t.now in
    let e = g.lent.states in
    let shows = c.paired_words.new.words in
    let M : Made c' a.runs.now c.make_links.new.links c.make_needs.new.needs c.longest_of-most.result = record {
      running = W;
      linked = c.make_links.ensures c' g.lent.moves R (omega arith) (get_d_equal 0 768);
      holds = c.make_needs.ensures c' g.lent.moves R E.needs_room;
      room = rw c.make_needs.auto.needs E.needs_room;
      longest = longest_made c' R a.t.now.presets.now c.longest_of-most.result a.t.now.chart.step g.lent.presets g.step c.longest_of-most.ensures;
    } in
    let shown : PairedWords c' d.output_pairs shows = paired_words_same d c' (sym e) d.output_pairs shows
    (c.paired_words.ensures (tree_same c' d e (rules_tree c' R)) (rw (← state_count_same c' d e) E.shows_room) E.no_shows) in
    c.run_made.ensures c' g.step e g.lent.moves g.lent.presets R M
    (subst (λ ps. PairedWords c' ps shows) (sym g.lent.output_pairs) shown) lm lt val p q
