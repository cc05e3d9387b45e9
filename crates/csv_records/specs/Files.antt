-- The seven files: `feed` over a whole file and `finish` answer as the checks of format's Printed.antt do, and store the file's numbers.
use Rattle.meaning.specs.Refusals.{Answer}
use Rattle.std.specs.Prelude.{◌≡◌, ℕ, zero, suc, ◌≤◌, ◌<◌, true, List, [], map, length, get_or, leb, ltb, eqb, Ok}
use Rattle.std.proofs.Math.Path.{refl, ap}
use Rattle.std.proofs.Common.{sym, ◌∙◌, lt-ltb, le-ltb}
use native.Mathlib.Omega.{arith}
use Rattle.std.proofs.Math.Bool.{not}
use Rattle.std.proofs.lemmas.List.Edits.{sets}
use Rattle.std.proofs.Math.Dec.{eqb-suc-zero}
use Rattle.meaning.specs.Programs.{all}
use Rattle.meaning.specs.Rows.{least}
use Rattle.meaning.proofs.Laws.Rows.{least_same}
use Rattle.meaning.specs.Tables.{state_row, move_row, pair_row}
use Rattle.meaning.specs.Check.{Check, first_failing}
use Rattle.format.specs.Records.{Column, records, record_passes, numbers}
use Rattle.format.specs.Printed.{naturals, unsigned, signed16, file_check, frame_check, scans_file_check}
use Rattle.csv_cursor.specs.declared.Reader.{Reader}
use Rattle.csv_field.specs.Field.{most64}
use Rattle.csv_value.specs.Decimals.{signed_of}
use Rattle.csv_cursor.specs.Passing.{fresh_reader}
use Rattle.csv_records.specs.Automaton.{emits, feed_all, at_end, answer_of, Fed, Finished}
use Rattle.csv_records.specs.Pieces.{sets_fed}
use Rattle.csv_records.specs.Fields.{stored_number}
use Rattle.csv_records.specs.Reading.{most_of, below_of, limited, answered, read_answer, read_passing, read_numbers}
use Rattle.csv_records.specs.Numbers.{within, records_within, stored_naturals, naturals_within, signed_back}

-- what a file is read as: the answer of its check; and where it has rows, their numbers, which are of its type, from the front of out, as far as it reaches
pub record Read (t : Column) (k : Check) (bs out : List ℕ) (a : Answer) (left : List ℕ) : Type 0 where
  pub answer : a ≡ answered k (length (records bs))
  pub stores : (n : ℕ) → a ≡ Ok n → left ≡ sets out 0 (map stored_number (numbers bs))
  pub typed : (n : ℕ) → a ≡ Ok n → all (within (most_of t) (below_of t)) (numbers bs) ≡ true

-- a fresh reader is given a file, in any pieces (records' Pieces.antt), and then its end
pub record Calls (r : Reader) (bs out : List ℕ) (a : Answer) (left : List ℕ) : Type 0 where
  pub state : Reader
  pub between : List ℕ
  pub fed : Fed r bs out state between
  pub finished : Finished state between a left
  pub room : length out ≤ most64

module _ (t : Column) (more few limit : ℕ) (small : most_of t ≤ most64) (little : below_of t ≤ most64) (fits : limit ≤ most64) (bs : List ℕ) where
  numbers_typed : ((j : ℕ) → j < length (records bs) → record_passes t (suc more) (get_or (records bs) j []) ≡ true) → all (within (most_of t) (below_of t)) (numbers bs) ≡ true
  unfolding numbers
  numbers_typed h = records_within t small little more (records bs) h

  pub calls_read : (out : List ℕ) (a : Answer) (left : List ℕ) → Calls (fresh_reader (most_of t) (below_of t) more few limit) bs out a left → Read t (limited t more few limit bs) bs out a left
  calls_read out a left c =
      let e : a ≡ answer_of (at_end (feed_all (fresh_reader (most_of t) (below_of t) more few limit) bs)) = c.finished.answer ∙ ap (λ (s : Reader). answer_of (at_end s)) c.fed.state in
      record {
        answer = e ∙ read_answer t more few limit small little fits bs;
        stores = λ n f. rw (c.finished.stored, c.fed.stored, c.fed.state)
            (sets_fed out (fresh_reader (most_of t) (below_of t) more few limit) bs (emits (feed_all (fresh_reader (most_of t) (below_of t) more few limit) bs) 10) c.room
            ∙ ap (sets out 0) (read_numbers t more few limit small little fits bs n (sym e ∙ f)));
        typed = λ n f. numbers_typed (read_passing t more few limit small little fits bs n (sym e ∙ f));
      }

  -- a check with the same rows, of which the same pass
  pub same_read : (k : Check) → k.refusal ≡ (limited t more few limit bs).refusal → k.rows ≡ (limited t more few limit bs).rows
      → ((i : ℕ) → i < k.rows → k.passes i ≡ (limited t more few limit bs).passes i)
      → (out : List ℕ) (a : Answer) (left : List ℕ) → Calls (fresh_reader (most_of t) (below_of t) more few limit) bs out a left → Read t k bs out a left
  unfolding answered first_failing
  same_read k e f g out a left c =
      let r = calls_read out a left c in
      let h : least (λ i. not (k.passes i)) 0 k.rows ≡ least (λ i. not ((limited t more few limit bs).passes i)) 0 k.rows =
      least_same (λ i. not (k.passes i)) (λ i. not ((limited t more few limit bs).passes i)) 0 k.rows (λ i u v. ap not (g i (omega arith))) in
      record { answer = r.answer ∙ rw (h, e, f); stores = r.stores; typed = r.typed }

one_record : (i : ℕ) → eqb i 0 ≡ ltb i 1
one_record zero = refl
one_record (suc i) = eqb-suc-zero i ∙ sym (le-ltb (suc i) 1 (omega arith))

-- "frame.csv has one record: none is FIELD at 0, a second FIELD at 1."
pub read_frame : (bs out : List ℕ) (a : Answer) (left : List ℕ) → Calls (fresh_reader 4294967295 0 2 1 1) bs out a left → Read (unsigned 32) (frame_check bs) bs out a left
unfolding frame_check limited
read_frame bs out a left c = same_read (unsigned 32) 2 1 1 (omega arith) (omega arith) (omega arith) bs (frame_check bs) refl refl (λ i h. rw (one_record i)) out a left c

-- "scans.csv has at most 4,096: more is FIELD at 4,096."
pub read_scans : (bs out : List ℕ) (a : Answer) (left : List ℕ) → Calls (fresh_reader 18446744073709551615 0 0 0 4096) bs out a left → Read (unsigned 64) (scans_file_check bs) bs out a left
unfolding scans_file_check limited
read_scans bs out a left c = same_read (unsigned 64) 0 0 4096 (omega arith) (omega arith) (omega arith) bs (scans_file_check bs) refl (omega arith) (λ i h. refl) out a left c

-- a file of no more records than a count holds
module _ (t : Column) (more : ℕ) (small : most_of t ≤ most64) (little : below_of t ≤ most64) (bs : List ℕ) (few : length (records bs) ≤ most64) where
  pub read_file : (out : List ℕ) (a : Answer) (left : List ℕ) → Calls (fresh_reader (most_of t) (below_of t) more 0 most64) bs out a left → Read t (file_check t (suc more) bs) bs out a left
  unfolding file_check limited
  read_file = same_read t more 0 most64 small little (omega arith) bs (file_check t (suc more) bs) refl (omega arith) (λ i h. (let z : i < most64 = omega arith in rw (lt-ltb i most64 z)))

pub read_states : (bs : List ℕ) → length (records bs) ≤ most64 → (out : List ℕ) (a : Answer) (left : List ℕ) → Calls (fresh_reader 65535 0 1 0 most64) bs out a left → Read (unsigned 16) (file_check (unsigned 16) state_row bs) bs out a left
read_states = read_file (unsigned 16) 1 (omega arith) (omega arith)

pub read_moves : (bs : List ℕ) → length (records bs) ≤ most64 → (out : List ℕ) (a : Answer) (left : List ℕ) → Calls (fresh_reader 32767 32768 10 0 most64) bs out a left → Read signed16 (file_check signed16 move_row bs) bs out a left
read_moves = read_file signed16 10 (omega arith) (omega arith)

pub read_presets : (bs : List ℕ) → length (records bs) ≤ most64 → (out : List ℕ) (a : Answer) (left : List ℕ) → Calls (fresh_reader 4294967295 0 0 0 most64) bs out a left → Read (unsigned 32) (file_check (unsigned 32) 1 bs) bs out a left
read_presets = read_file (unsigned 32) 0 (omega arith) (omega arith)

-- timer pairs and output pairs
pub read_pairs : (bs : List ℕ) → length (records bs) ≤ most64 → (out : List ℕ) (a : Answer) (left : List ℕ) → Calls (fresh_reader 65535 0 1 0 most64) bs out a left → Read (unsigned 16) (file_check (unsigned 16) pair_row bs) bs out a left
read_pairs = read_file (unsigned 16) 1 (omega arith) (omega arith)

-- ---- what the tables are made of

-- a file without signs: what is stored are its naturals, each of its type
pub stored_are : (most : ℕ) (bs : List ℕ) → all (within most 0) (numbers bs) ≡ true → (map stored_number (numbers bs) ≡ naturals bs) × (all (λ n. leb n most) (naturals bs) ≡ true)
unfolding naturals
stored_are most bs e = (stored_naturals most (numbers bs) e, naturals_within most (numbers bs) e)

-- moves.csv: `signed` gives its numbers back
pub moves_are : (bs : List ℕ) → all (within 32767 32768) (numbers bs) ≡ true → map signed_of (map stored_number (numbers bs)) ≡ numbers bs
moves_are bs e = signed_back (numbers bs) e
