-- No second answer of what is printed.
use Rattle.std.specs.Prelude.{List, ℕ}
use Rattle.meaning.specs.Once.{Once}
use Rattle.meaning.proofs.Laws.Once.{two}
use Rattle.csv_tables.specs.declared.Answers.{Answers}
use Rattle.print_lines.specs.declared.Printed.{Printed}
use Rattle.print_text.specs.declared.Stored.{Stored}
use Rattle.print_text.specs.declared.PageKind.{PageKind}
use Rattle.print_text.specs.Print.{FilesPrinted, one_print}

pub print_once : (page : PageKind) (a : Answers) (stored : Stored) (l : List ℕ)
    → Once {A = Printed × List ℕ} (λ (p, m). FilesPrinted page a stored l p m)
print_once page a stored l x y p q = two (one_print _ _ l _ _ _ _ p q)
