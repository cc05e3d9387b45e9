-- What the reader of a file answers to C, which names the file by a number.
use Rattle.std.specs.Prelude.{◌≡◌, List, ℕ, ◌≤◌, ◌<◌, Result, Err}
use Rattle.meaning.specs.declared.Refusal.{Refusal}
use Rattle.std.proofs.Common.{sym, ◌∙◌, arith}
use Rattle.meaning.specs.declared.Refusal.TheVariants as R
use Rattle.csv_file.specs.declared.FileRead.{FileRead}
use Rattle.csv_file.specs.Reads.{RecordsRead, records_read_same}
use Rattle.c_answers.specs.declared.CAnswer.{CAnswer}
use Rattle.c_answers.specs.Answers.{Told}
use Rattle.c_answers.specs.Files.{file_of, RecordsTold}
use Rattle.c_answers.specs.Once.{refused_once, tell_records_once}

-- SIZE for a number that no file has, else what the file is read as
pub data KindRead (kind : ℕ) (bs out : List ℕ) (a : CAnswer) (left : List ℕ) : Type 0 where
  unknown : 6 < kind → Told (Err R.Size) 0 a → left ≡ out → KindRead kind bs out a left
  known : kind ≤ 6 → (r : Result FileRead Refusal) → RecordsRead (file_of kind) bs out r left → RecordsTold r a → KindRead kind bs out a left

-- ---- no second answer

pub kind_read_same : {kind : ℕ} {bs out : List ℕ} {a b : CAnswer} {l m : List ℕ} → KindRead kind bs out a l → KindRead kind bs out b m → (a ≡ b) × (l ≡ m)
kind_read_same {a = a} {b = b} (KindRead.unknown h p e) (KindRead.unknown k q f) = (refused_once R.Size a b p q, e ∙ sym f)
kind_read_same (KindRead.unknown h p e) (KindRead.known k s q f) = absurd (omega arith)
kind_read_same (KindRead.known h r p e) (KindRead.unknown k q f) = absurd (omega arith)
kind_read_same {a = a} {b = b} (KindRead.known h r p e) (KindRead.known k s q f) = (let z = records_read_same p q in (tell_records_once r a b e (rw (sym z.0) at f), z.1))
