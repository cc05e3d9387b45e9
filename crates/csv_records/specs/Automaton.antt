-- What a reader of records does with a byte, with many, and with the end of the file. That this is what document 01 says of the whole file is in crate reading.
use Rattle.meaning.specs.Refusals.{Answer}
use Rattle.std.specs.Prelude.{◌≡◌, ℕ, ◌&&◌, ◌||◌, cond, List, [], ◌∷◌, ◌++◌, leb, ltb, eqb, Ok, Err, Some, None, Option}
use Rattle.std.proofs.lemmas.List.Edits.{sets}
use Rattle.meaning.specs.declared.Refusal.TheVariants as R
use Rattle.csv_field.specs.Field.{phase_after}
use Rattle.csv_value.specs.Decimals.{decimal_of, returned, untouched, failed}
use Rattle.csv_cursor.specs.declared.Reader.{Reader}
use Rattle.csv_cursor.specs.Passing.{count_up, reader_with, bad, ends, separator_fits, passed}

-- ---- a byte

unfoldable pub taken : (Option ℕ) → Reader → ℕ → Reader
taken (Some v) r b = passed r b (count_up r.at)
taken None r b = bad r

-- LF after CR ends the record, whose last field CR has ended
unfoldable pub field_end : Reader → ℕ → Reader
field_end r b = cond (eqb b 10 && returned r.phase) (passed r b r.at) (cond (separator_fits r.left b) (taken (decimal_of r.phase) r b) (bad r))

unfoldable pub feed_byte : Reader → ℕ → Reader
feed_byte r b = cond (leb r.limit r.record_no) (bad r)
    (cond (ends b) (field_end r b) (reader_with r (phase_after r.most r.below r.phase b) r.record_no r.left r.at))

unfoldable pub numbers_of : (Option ℕ) → List ℕ
numbers_of (Some v) = v ∷ []
numbers_of None = []

unfoldable pub field_emits : Reader → ℕ → List ℕ
field_emits r b = cond (separator_fits r.left b) (numbers_of (decimal_of r.phase)) []

-- the number that b makes the reader store
unfoldable pub emits : Reader → ℕ → List ℕ
emits r b = cond (leb r.limit r.record_no) [] (cond (ends b) (field_emits r b) [])

-- ---- many bytes

unfoldable pub feed_all : Reader → List ℕ → Reader
feed_all r [] = r
feed_all r (b ∷ bs) = feed_all (feed_byte r b) bs

unfoldable pub emitted : Reader → List ℕ → List ℕ
emitted r [] = []
emitted r (b ∷ bs) = emits r b ++ emitted (feed_byte r b) bs

-- ---- the end of the file

-- it ends a record that has begun as LF does, but a CR before it is no end
unfoldable pub at_end : Reader → Reader
at_end r = cond (untouched r.phase) r (cond (returned r.phase) (bad r) (feed_byte r 10))

unfoldable pub answer_of : Reader → Answer
answer_of r = cond (failed r.phase || ltb r.record_no r.least) (Err (R.Field r.record_no)) (Ok r.record_no)

-- ---- contracts

pub record FieldEnded (r : Reader) (b : ℕ) (out : List ℕ) (s : Reader) (left : List ℕ) : Type 0 where
  pub state : s ≡ field_end r b
  pub stored : left ≡ sets out r.at (field_emits r b)

pub record FedByte (r : Reader) (b : ℕ) (out : List ℕ) (s : Reader) (left : List ℕ) : Type 0 where
  pub state : s ≡ feed_byte r b
  pub stored : left ≡ sets out r.at (emits r b)

pub record Fed (r : Reader) (bytes out : List ℕ) (s : Reader) (left : List ℕ) : Type 0 where
  pub state : s ≡ feed_all r bytes
  pub stored : left ≡ sets out r.at (emitted r bytes)

pub record Finished (r : Reader) (out : List ℕ) (a : Answer) (left : List ℕ) : Type 0 where
  pub answer : a ≡ answer_of (at_end r)
  pub stored : left ≡ sets out r.at (emits r 10)
