-- No second answer of any function of this crate.
use Rattle.std.specs.Prelude.{◌≡◌, List, ℕ}
use Rattle.meaning.specs.Once.{Once}
use Rattle.meaning.proofs.Laws.Once.{is_once}
use Rattle.csv_tables.specs.declared.Answers.{Answers}
use Rattle.csv_tables.specs.Told.{field_verdict, Counted, chart_from, one_count}

pub fields_pass_once : (a : Answers) → Once (λ v. v ≡ field_verdict a)
fields_pass_once a = is_once (field_verdict a)

pub count_rows_once : (a : Answers) → Once (λ n. Counted a n)
count_rows_once a x y p q = one_count a x y p q

pub chart_of_once : (frame : List ℕ) → Once (λ r. r ≡ chart_from frame)
chart_of_once frame = is_once (chart_from frame)
