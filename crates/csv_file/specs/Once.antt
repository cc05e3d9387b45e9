-- No second answer of a file's reader, and of the reader of a whole file.
use Rattle.std.specs.Prelude.{◌≡◌, List, ℕ, Result}
use Rattle.meaning.specs.Once.{Once}
use Rattle.meaning.proofs.Laws.Once.{is_once, two}
use Rattle.meaning.specs.declared.Refusal.{Refusal}
use Rattle.csv_file.specs.declared.File.{File}
use Rattle.csv_file.specs.declared.FileRead.{FileRead}
use Rattle.csv_file.specs.Reads.{reader_for, RecordsRead, records_read_same}

pub reader_for_once : (f : File) → Once (λ r. r ≡ reader_for f)
reader_for_once f = is_once (reader_for f)

pub read_records_once : (f : File) (bs out : List ℕ) → Once {A = Result FileRead Refusal × List ℕ} (λ (a, m). RecordsRead f bs out a m)
read_records_once f bs out x y p q = two (records_read_same p q)
