-- No second answer of any function of this crate.
use Rattle.std.specs.Prelude.{◌≡◌}
use Rattle.meaning.specs.Once.{Once}
use Rattle.meaning.proofs.Laws.Once.{is_once}
use Rattle.format.specs.declared.Line.{Line}
use Rattle.format.specs.declared.Page.{Page}
use Rattle.format.specs.Automata.Lines as Lines

pub first_once : Once (λ r. r ≡ Lines.first_page)
first_once = is_once Lines.first_page

pub turn_once : (p : Page) (l : Line) → Once (λ r. r ≡ Lines.turn p l)
turn_once p l = is_once (Lines.turn p l)

pub stands_once : (p : Page) → Once (λ r. r ≡ Lines.page_stands p)
stands_once p = is_once (Lines.page_stands p)

pub is_over_once : (p : Page) → Once (λ r. r ≡ Lines.over p)
is_over_once p = is_once (Lines.over p)
