-- What the reader of a whole file answers, and what it leaves in the slice.
use Rattle.meaning.specs.Refusals.{Answer, Verdict}
use Rattle.std.specs.Prelude.{◌≡◌, cond, List, [], ◌∷◌, map, ℕ, ◌*◌, length, leb, Ok, Err, Result}
use Rattle.std.proofs.Common.{sym, ◌∙◌}
use Rattle.meaning.specs.Tables.{state_row, move_row, pair_row}
use Rattle.meaning.specs.Check.{Check, verdict_of}
use Rattle.meaning.specs.Calls.{overlaid}
use Rattle.meaning.specs.declared.Refusal.{Refusal}
use Rattle.meaning.specs.declared.Refusal.TheVariants as R
use Rattle.format.specs.Records.{Column, records, numbers}
use Rattle.format.specs.Printed.{unsigned, signed16, frame_check, states_file_check, moves_file_check, presets_file_check, pairs_file_check, scans_file_check}
use Rattle.csv_cursor.specs.declared.Reader.{Reader}
use Rattle.csv_cursor.specs.Passing.{fresh_reader}
use Rattle.csv_records.specs.Fields.{stored_number}
use Rattle.csv_records.specs.Files.{Read}
use Rattle.csv_file.specs.declared.File.{File}
use Rattle.csv_file.specs.declared.File.TheVariants.{Frame, States, Moves, Presets, TimerPairs, OutputPairs, Scans}
use Rattle.csv_file.specs.declared.FileRead.{FileRead}

-- 16 FIELD of a file: the check that the program's `field_checks` has for it
abbrev pub field_check : File → List ℕ → Check
field_check Frame bs = frame_check bs
field_check States bs = states_file_check bs
field_check Moves bs = moves_file_check bs
field_check Presets bs = presets_file_check bs
field_check TimerPairs bs = pairs_file_check bs
field_check OutputPairs bs = pairs_file_check bs
field_check Scans bs = scans_file_check bs

abbrev pub file_verdict : File → List ℕ → Verdict
file_verdict f bs = verdict_of (field_check f bs ∷ [])

-- FIELD, then ROOM with how many numbers there are, else how many records and numbers
abbrev pub file_answer : List ℕ → List ℕ → Verdict → Result FileRead Refusal
file_answer bs out (Ok tt) = cond (leb (length (numbers bs)) (length out)) (Ok (record { records = length (records bs); numbers = length (numbers bs) }))
    (Err (R.Room (length (numbers bs))))
file_answer bs out (Err r) = Err r

-- the numbers from the front, a negative one as its 64-bit two's complement, the rest kept; "A refusal writes nothing."
abbrev pub file_left : List ℕ → List ℕ → Verdict → List ℕ
file_left bs out (Ok tt) = cond (leb (length (numbers bs)) (length out)) (overlaid (map stored_number (numbers bs)) out) out
file_left bs out (Err r) = out

pub record RecordsRead (f : File) (bs out : List ℕ) (a : Result FileRead Refusal) (left : List ℕ) : Type 0 where
  pub answer : a ≡ file_answer bs out (file_verdict f bs)
  pub slice : left ≡ file_left bs out (file_verdict f bs)

-- no second answer
pub records_read_same : {f : File} {bs out : List ℕ} {a b : Result FileRead Refusal} {l m : List ℕ} → RecordsRead f bs out a l → RecordsRead f bs out b m → (a ≡ b) × (l ≡ m)
records_read_same p q = (p.answer ∙ sym q.answer, p.slice ∙ sym q.slice)

-- ---- the parts

-- the type of its fields
abbrev pub column_for : File → Column
column_for Frame = unsigned 32
column_for States = unsigned 16
column_for Moves = signed16
column_for Presets = unsigned 32
column_for TimerPairs = unsigned 16
column_for OutputPairs = unsigned 16
column_for Scans = unsigned 64

-- how many there are in a record
abbrev pub row_for : File → ℕ
row_for Frame = 3
row_for States = state_row
row_for Moves = move_row
row_for Presets = 1
row_for TimerPairs = pair_row
row_for OutputPairs = pair_row
row_for Scans = 1

abbrev pub reader_for : File → Reader
reader_for Frame = fresh_reader 4294967295 0 2 1 1
reader_for States = fresh_reader 65535 0 1 0 18446744073709551615
reader_for Moves = fresh_reader 32767 32768 10 0 18446744073709551615
reader_for Presets = fresh_reader 4294967295 0 0 0 18446744073709551615
reader_for TimerPairs = fresh_reader 65535 0 1 0 18446744073709551615
reader_for OutputPairs = fresh_reader 65535 0 1 0 18446744073709551615
reader_for Scans = fresh_reader 18446744073709551615 0 0 0 4096

-- a pass over the file tells the answer of its check; where that is a number of records, each has a number a field
pub record FilePassed (f : File) (bs out : List ℕ) (a : Answer) (left : List ℕ) : Type 0 where
  pub read : Read (column_for f) (field_check f bs) bs out a left
  pub count : (n : ℕ) → a ≡ Ok n → length (numbers bs) ≡ n * row_for f
