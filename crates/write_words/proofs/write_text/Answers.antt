-- Measured over no bytes, then written.
use mathlib.Core.List.{[]}
use borrow.Author.Rules.{rules}
use Rattle.meaning.proofs.Laws.Rows.{no_length}
use Rattle.write_lines.specs.WroteLaws.{refuses, writes}
use Rattle.write_words.proofs.write_text.Goals as goal

pub returns-then-out-needed : goal.returns-then-out-needed
returns-then-out-needed c =
    let m = c.put_text-needed.ensures in
    refuses _ c.args.out.now [] _ (rw (no_length _ m.long) at m) c.if-out-needed.true

pub returns : goal.returns
returns c =
    let m = c.put_text-needed.ensures in
    writes _ c.args.out.now [] _ (rw (no_length _ m.long) at m) (search rules) c.if-out-needed.false c.put_text.ensures
