-- No second answer of what is printed with --needs.
use Rattle.std.proofs.Common.{sym, ◌∙◌}
use Rattle.std.specs.Prelude.{List, ℕ}
use Rattle.meaning.specs.Once.{Once}
use Rattle.meaning.proofs.Laws.Once.{two}
use Rattle.tables.specs.Given.{given}
use Rattle.tables.specs.declared.ChartTables.{ChartTables}
use Rattle.print_lines.specs.declared.Printed.{Printed}
use Rattle.print_needs.specs.Page.{NeedsPrintedTo}

pub print_needs_once : (t : ChartTables) (l : List ℕ) → Once {A = Printed × List ℕ} (λ (p, m). NeedsPrintedTo (given t) l p m)
print_needs_once t l x y p q = two
    (λ i. record { length = (p.written.next ∙ sym q.written.next) i; verdict = (p.why ∙ sym q.why) i }, p.written.list ∙ sym q.written.list)
