-- No second answer of any function of this crate: the reader, or its answer, and the numbers at exit.
use Rattle.meaning.specs.Refusals.{Answer}
use Rattle.std.proofs.Common.{sym, ◌∙◌}
use Rattle.std.specs.Prelude.{List, ℕ}
use Rattle.meaning.specs.Once.{Once}
use Rattle.meaning.proofs.Laws.Once.{two}
use Rattle.csv_cursor.specs.declared.Reader.{Reader}
use Rattle.csv_records.specs.Automaton.{Fed, Finished}

pub feed_once : (r : Reader) (bytes out : List ℕ) → Once {A = Reader × List ℕ} (λ (s, m). Fed r bytes out s m)
feed_once r bytes out x y p q = two (p.state ∙ sym q.state, p.stored ∙ sym q.stored)

pub finish_once : (r : Reader) (out : List ℕ) → Once {A = Answer × List ℕ} (λ (a, m). Finished r out a m)
finish_once r out x y p q = two (p.answer ∙ sym q.answer, p.stored ∙ sym q.stored)
