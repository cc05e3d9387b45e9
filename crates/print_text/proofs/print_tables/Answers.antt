-- The page of needs is the other page of the same tables.
use Rattle.print_text.specs.Print.{needs_printed_lem}
use Rattle.print_text.proofs.print_tables.Goals as goal

pub returns-in-Needs : goal.returns-in-Needs
returns-in-Needs c = rw c.in-Needs.is (needs_printed_lem _ _ _ _ _ c.print_needs.ensures)
