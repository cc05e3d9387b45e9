-- Whatever was answered and stored, a page has no more bytes than fit.
use Rattle.print_text.specs.Lengths.{refused_few, rows_few}
use Rattle.print_text.proofs.print.Goals as goal

pub returns-in-Err-clause-room : goal.returns-in-Err-clause-room
returns-in-Err-clause-room c = refused_few _ _ _ _ c.print_refusal.ensures

pub returns-in-Ok-clause-room : goal.returns-in-Ok-clause-room
returns-in-Ok-clause-room c = rows_few _ c.args.answers c.args.stored.now _ _ _ c.print_rows.ensures
