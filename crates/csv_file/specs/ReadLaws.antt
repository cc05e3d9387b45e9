-- A file of n bytes has at most n + 1 numbers, and what two passes over it tell is its answer.
use Rattle.meaning.specs.Refusals.{Answer}
use Rattle.std.specs.Prelude.{◌≡◌, refl, ℕ, suc, ◌+◌, ◌*◌, ◌≤◌, ◌<◌, max, false, get_or, eqb, Ok, Err}
use Rattle.std.proofs.Math.Path.{sym}
use Rattle.std.proofs.Common.{ap, ◌∙◌, inl, inr, arith, zero-add, suc-mul, length-append}
use Rattle.std.proofs.Math.Bool.{true}
use mathlib.Core.List.{List, [], ◌∷◌, map, flat_map}
use Rattle.std.proofs.Math.ListN.{length, length-map}
use Rattle.std.proofs.Math.Seq.{sets}
use Rattle.std.proofs.lemmas.List.Edits.{sets-eq}
use Rattle.std.proofs.Math.Dec.{leb}
use borrow.Author.Tests.{le-leb, lt-leb, eqb-true}
use Rattle.meaning.specs.Programs.{all}
use Rattle.meaning.proofs.Laws.Rows.{which, and_l}
use Rattle.meaning.specs.Check.{Check, first_failing, verdict_of}
use Rattle.meaning.specs.Calls.{overlaid}
use Rattle.meaning.specs.declared.Refusal.{Refusal}
use Rattle.meaning.specs.declared.Refusal.TheVariants as R
use Rattle.format.specs.Records.{front, pieces, without_cr, ended_records, records, content, fields, field_value, decimal_fits, record_passes, numbers}
use Rattle.format.specs.Printed.{unsigned, signed16}
use Rattle.csv_field.specs.Field.{most64}
use Rattle.csv_cursor.specs.declared.Reader.{Reader}
use Rattle.csv_records.specs.Automaton.{feed_all, at_end, answer_of}
use Rattle.csv_records.specs.Fields.{stored_number}
use Rattle.csv_records.specs.Reading.{answered, read_passing}
use Rattle.csv_records.specs.Files.{Read, Calls, read_frame, read_states, read_moves, read_presets, read_pairs, read_scans}
use Rattle.csv_file.specs.declared.File.{File}
use Rattle.csv_file.specs.declared.File.TheVariants.{Frame, States, Moves, Presets, TimerPairs, OutputPairs, Scans}
use Rattle.csv_file.specs.Reads.{field_check, RecordsRead, column_for, row_for, reader_for, FilePassed}

-- ---- how many numbers a file has

-- the bytes of some pieces, each with one byte that ends it
unfoldable spans : List (List ℕ) → ℕ
spans [] = 0
spans (p ∷ ps) = suc (length p) + spans ps

front_few : (b : ℕ) (ps : List (List ℕ)) → length (front b ps) ≤ max 1 (length ps)
unfolding front
front_few b [] = omega arith
front_few b (p ∷ ps) = omega arith

pieces_few : (sep : ℕ) (bs : List ℕ) → length (pieces sep bs) ≤ suc (length bs)
unfolding pieces
pieces_few sep [] = omega arith
pieces_few sep (b ∷ bs) = elim (which (eqb b sep)) [
  | inl e ↦ rw e (omega (arith, pieces_few sep bs))
  | inr e ↦ rw e (omega (arith, front_few b (pieces sep bs), pieces_few sep bs))
]

front_spans : (b : ℕ) (ps : List (List ℕ)) → spans (front b ps) ≤ suc (max 1 (spans ps))
unfolding front spans
front_spans b [] = omega arith
front_spans b (p ∷ ps) = omega arith

pieces_spans : (sep : ℕ) (bs : List ℕ) → spans (pieces sep bs) ≤ suc (length bs)
unfolding pieces spans
pieces_spans sep [] = omega arith
pieces_spans sep (b ∷ bs) = elim (which (eqb b sep)) [
  | inl e ↦ rw e (omega (arith, pieces_spans sep bs))
  | inr e ↦ rw e (omega (arith, front_spans b (pieces sep bs), pieces_spans sep bs))
]

cr_few : (p : List ℕ) → length (without_cr p) ≤ length p
unfolding without_cr
cr_few [] = omega arith
cr_few (b ∷ []) = elim (which (eqb b 13)) [ inl e ↦ rw e (omega arith) | inr e ↦ rw e (omega arith) ]
cr_few (b ∷ d ∷ p) = omega (arith, cr_few (d ∷ p))

ended_spans : (ps : List (List ℕ)) → spans (ended_records ps) ≤ spans ps
unfolding ended_records spans
ended_spans [] = omega arith
ended_spans ([] ∷ []) = omega arith
ended_spans ((b ∷ p) ∷ []) = omega arith
ended_spans (p ∷ q ∷ ps) = omega (arith, cr_few p, ended_spans (q ∷ ps))

records_spans : (bs : List ℕ) → spans (records bs) ≤ suc (length bs)
unfolding records
records_spans bs = omega (arith, ended_spans (pieces 10 bs), pieces_spans 10 bs)

rows_few : (xs : List (List ℕ)) → length xs ≤ spans xs
unfolding spans
rows_few [] = omega arith
rows_few (x ∷ xs) = omega (arith, rows_few xs)

pub records_few : (bs : List ℕ) → length (records bs) ≤ suc (length bs)
records_few bs = omega (arith, rows_few (records bs), records_spans bs)

fields_length : (x : List ℕ) → length (map field_value (fields x)) ≡ length (pieces 44 x)
unfolding fields
fields_length x = length-map (map content (pieces 44 x)) field_value ∙ length-map (pieces 44 x) content

all_few : (xs : List (List ℕ)) → length (flat_map (λ r. map field_value (fields r)) xs) ≤ spans xs
unfolding flat_map spans
all_few [] = omega arith
all_few (x ∷ xs) = omega (arith, length-append (map field_value (fields x)) (flat_map (λ r. map field_value (fields r)) xs), fields_length x, pieces_few 44 x, all_few xs)

pub numbers_few : (bs : List ℕ) → length (numbers bs) ≤ suc (length bs)
unfolding numbers
numbers_few bs = omega (arith, all_few (records bs), records_spans bs)

-- records that pass have a number for each of their fields
all_count : (n : ℕ) (xs : List (List ℕ)) → ((j : ℕ) → j < length xs → length (fields (get_or xs j [])) ≡ n) → length (flat_map (λ r. map field_value (fields r)) xs) ≡ length xs * n
unfolding flat_map
all_count n [] h = omega arith
all_count n (x ∷ xs) h =
    rw (length-append (map field_value (fields x)) (flat_map (λ r. map field_value (fields r)) xs), length-map (fields x) field_value, h 0 (omega arith), all_count n xs (λ j z. h (suc j) (omega arith)), suc-mul (length xs) n)
    (omega arith)

-- ---- a pass

-- the reader of a file tells the answer of its check
reads_file : (f : File) (bs out : List ℕ) (a : Answer) (left : List ℕ) → length bs < most64 → Calls (reader_for f) bs out a left → Read (column_for f) (field_check f bs) bs out a left
reads_file Frame bs out a left h c = read_frame bs out a left c
reads_file States bs out a left h c = read_states bs (omega (arith, records_few bs)) out a left c
reads_file Moves bs out a left h c = read_moves bs (omega (arith, records_few bs)) out a left c
reads_file Presets bs out a left h c = read_presets bs (omega (arith, records_few bs)) out a left c
reads_file TimerPairs bs out a left h c = read_pairs bs (omega (arith, records_few bs)) out a left c
reads_file OutputPairs bs out a left h c = read_pairs bs (omega (arith, records_few bs)) out a left c
reads_file Scans bs out a left h c = read_scans bs out a left c

abbrev AllPass : File → List ℕ → Type 0
AllPass f bs = (j : ℕ) → j < length (records bs) → record_passes (column_for f) (row_for f) (get_or (records bs) j []) ≡ true

-- where it counts records, each passes
passes_file : (f : File) (bs : List ℕ) (n : ℕ) → answer_of (at_end (feed_all (reader_for f) bs)) ≡ Ok n → AllPass f bs
passes_file Frame bs n e = read_passing (unsigned 32) 2 1 1 (omega arith) (omega arith) (omega arith) bs n e
passes_file States bs n e = read_passing (unsigned 16) 1 0 most64 (omega arith) (omega arith) (omega arith) bs n e
passes_file Moves bs n e = read_passing signed16 10 0 most64 (omega arith) (omega arith) (omega arith) bs n e
passes_file Presets bs n e = read_passing (unsigned 32) 0 0 most64 (omega arith) (omega arith) (omega arith) bs n e
passes_file TimerPairs bs n e = read_passing (unsigned 16) 1 0 most64 (omega arith) (omega arith) (omega arith) bs n e
passes_file OutputPairs bs n e = read_passing (unsigned 16) 1 0 most64 (omega arith) (omega arith) (omega arith) bs n e
passes_file Scans bs n e = read_passing (unsigned 64) 0 0 4096 (omega arith) (omega arith) (omega arith) bs n e

numbers_count : (f : File) (bs : List ℕ) → AllPass f bs → length (numbers bs) ≡ length (records bs) * row_for f
unfolding numbers record_passes
numbers_count f bs h = all_count (row_for f) (records bs) (λ j z. eqb-true (length (fields (get_or (records bs) j []))) (row_for f) (and_l (eqb (length (fields (get_or (records bs) j []))) (row_for f)) (all (decimal_fits (column_for f)) (fields (get_or (records bs) j []))) (h j z)))

-- what a check's answer is in terms of its verdict
answered_rows : (k : Check) (m n : ℕ) → answered k m ≡ Ok n → (verdict_of (k ∷ []) ≡ (Ok tt)) × (m ≡ n)
unfolding answered verdict_of
answered_rows k m n e = elim (which (eqb (first_failing k) k.rows)) [
  | inl f ↦ (let z : Ok m ≡ Ok n = rw f at e in (rw (verdict_of, f), cc))
  | inr f ↦ (let z : Err (k.refusal (first_failing k)) ≡ Ok n = rw f at e in let y : ◌≡◌ {A = ℕ} 0 1 = cc in absurd (omega arith))
]

answered_refused : (k : Check) (m : ℕ) (r : Refusal) → answered k m ≡ Err r → verdict_of (k ∷ []) ≡ Err r
unfolding answered verdict_of
answered_refused k m r e = elim (which (eqb (first_failing k) k.rows)) [
  | inl f ↦ (let z : Ok m ≡ Err r = rw f at e in let y : ◌≡◌ {A = ℕ} 0 1 = cc in absurd (omega arith))
  | inr f ↦ (let z : Err (k.refusal (first_failing k)) ≡ Err r = rw f at e in rw (verdict_of, f) (cc))
]

pub calls_pass : (f : File) (bs out : List ℕ) (a : Answer) (left : List ℕ) → length bs < most64 → Calls (reader_for f) bs out a left → FilePassed f bs out a left
calls_pass f bs out a left h c =
    let r = reads_file f bs out a left h c in
    let e : a ≡ answer_of (at_end (feed_all (reader_for f) bs)) = c.finished.answer ∙ ap (λ (s : Reader). answer_of (at_end s)) c.fed.state in
    record {
      read = r;
      count = λ n g. numbers_count f bs (passes_file f bs n (sym e ∙ g)) ∙ ap (λ (m : ℕ). m * row_for f) (answered_rows (field_check f bs) (length (records bs)) n (sym r.answer ∙ g)).1;
    }

-- ---- the call

module _ (f : File) (bs x y : List ℕ) where
  -- no more numbers than a count holds
  pub count_few : (n : ℕ) → FilePassed f bs x (Ok n) y → n * row_for f ≤ suc (length bs)
  count_few n p = omega (arith, p.count n refl, numbers_few bs)

  pub read_refused : (r : Refusal) (out left : List ℕ) → FilePassed f bs x (Err r) y → left ≡ out → RecordsRead f bs out (Err r) left
  read_refused r out left p k = let v = answered_refused (field_check f bs) (length (records bs)) r (sym p.read.answer) in record { answer = rw v; slice = rw (v, k) }

  -- k fields a record
  pub read_cramped : (n k : ℕ) (out left : List ℕ) → FilePassed f bs x (Ok n) y → k ≡ row_for f → length out < n * k → left ≡ out → RecordsRead f bs out (Err (R.Room (n * k))) left
  read_cramped n k out left p e h g =
      let v = (answered_rows (field_check f bs) (length (records bs)) n (sym p.read.answer)).0 in
      let m : length (numbers bs) ≡ n * k = p.count n refl ∙ ap (λ (j : ℕ). n * j) (sym e) in
      let t : leb (length (numbers bs)) (length out) ≡ false = lt-leb (length (numbers bs)) (length out) (omega (arith, m)) in
      record { answer = rw (v, t, m); slice = rw (v, t, g) }

  pub read_passed : (n : ℕ) (out : List ℕ) (a : Answer) (left : List ℕ) → FilePassed f bs x (Ok n) y → n * row_for f ≤ length out → FilePassed f bs out a left
      → RecordsRead f bs out (Ok (record { records = n; numbers = n * row_for f })) left
  unfolding overlaid
  read_passed n out a left p h q =
      let w = answered_rows (field_check f bs) (length (records bs)) n (sym p.read.answer) in
      let t : leb (length (numbers bs)) (length out) ≡ true = le-leb (length (numbers bs)) (length out) (omega (arith, p.count n refl)) in
      let l : length (map stored_number (numbers bs)) ≡ length (numbers bs) = length-map (numbers bs) stored_number in
      let e : left ≡ sets out 0 (map stored_number (numbers bs)) = q.read.stores n (q.read.answer ∙ sym p.read.answer) in
      record {
        answer = rw (w.0, t, w.1, p.count n refl);
        slice = rw (w.0, t, e) (sets-eq (map stored_number (numbers bs)) out 0 (omega (arith, p.count n refl)) ∙ rw zero-add);
      }

-- a file that passed once passes again, over whatever slice
pub passes_again : (f : File) (bs out left x y : List ℕ) (n : ℕ) (r : Refusal) → FilePassed f bs x (Ok n) y → FilePassed f bs out (Err r) left → ⊥
passes_again f bs out left x y n r p q =
    let e : Ok n ≡ Err r = p.read.answer ∙ sym q.read.answer in
    let z : ◌≡◌ {A = ℕ} 0 1 = cc in
    omega arith
