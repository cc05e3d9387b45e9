-- The moves below i are linked.
use Rattle.std.proofs.Common.{◌≡◌, ℕ, ◌≤◌, length, get_or}
use Rattle.meaning.specs.Tables.{Tables}
use Rattle.meaning.specs.Rules.{Rules}
use Rattle.chart_scan.specs.Choice.{LinkedTo}
use Rattle.chart_scan.proofs.make_links.Given as goal

abbrev pub invariant-loop-i : goal.invariant-loop-i
invariant-loop-i l = (c : Tables) → c.moves ≡ l.t.moves.now → Rules c → 768 ≤ length l.initial.links → ((s : ℕ) → get_or l.initial.links s 0 ≡ 0) → LinkedTo c l.i l.links
