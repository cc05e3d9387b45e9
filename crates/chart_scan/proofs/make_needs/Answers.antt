-- The moves pass with as many inputs and timers as there may be, and what they need is the same then.
use Rattle.std.proofs.Common.{refl, ◌∙◌}
use Rattle.meaning.specs.Tables.{move_count}
use Rattle.meaning.proofs.Laws.Overlap.{place_known}
use Rattle.check_needs.specs.Words.{needs_at}
use Rattle.check_needs.specs.WordsLaws.{hold_words_lem}
use Rattle.chart_scan.specs.Choice.{read}
use Rattle.chart_scan.specs.WidestLaws.{widest, widest_timers, widest_passes, widest_holds}
use Rattle.chart_scan.proofs.make_needs.Goals as goal

pub returns : goal.returns
unfolding move_count
returns c c' e R long i v h p =
    let f = c.fill in
    let w = widest c' in
    hold_words_lem w i (λ k z. place_known w i k (widest_passes c' R i h) z) (needs_at f.new.words i) v p
    (f.ensures w refl (widest_timers c') e (λ j z. widest_passes c' R j z) long i h)
    ∙ widest_holds c' (read v) i
