-- The theorem of the program: whatever the seven files hold, and in whatever pieces they are read, its calls give what format's Printed.antt says, and NeedsTable.antt of the other page.
use Rattle.meaning.specs.Refusals.{Answer}
use Rattle.meaning.specs.Refusals.{Verdict}
use Rattle.std.specs.Prelude.{◌≡◌, ℕ, ◌+◌, ◌*◌, ◌≤◌, min, length, get_or, take, drop, ltb, eqb, pos, Ok, Err}
use Rattle.std.proofs.Math.Path.{refl, ap}
use Rattle.std.proofs.Common.{sym, ◌∙◌, inl, inr, arith, length-take, take_all, take_at, ltb-true}
use Rattle.std.proofs.Math.Decide.{dec_le}
use mathlib.Core.List.{List, [], ◌∷◌, ◌++◌, map}
use Rattle.std.proofs.lemmas.List.{length-map}
use Rattle.std.proofs.Math.ListN.{get_or-map}
use Rattle.std.proofs.lemmas.List.Edits.{sets, sets-eq}
use Rattle.std.proofs.Math.Seq.{length-sets}
use Rattle.meaning.proofs.Laws.Rows.{which, and_l, and_r}
use Rattle.meaning.specs.Tables.{Tables, state_row, move_row, pair_row}
use Rattle.meaning.specs.Check.{Check, first_failing, verdict_of, verdict}
use Rattle.meaning.specs.Refusals.{number_of}
use Rattle.meaning.specs.declared.Refusal.{Refusal}
use Rattle.meaning.specs.declared.Refusal.TheVariants as R
use Rattle.format.specs.Records.{records, record_passes, numbers}
use Rattle.format.specs.Printed.{Files, unsigned, signed16, record_at, file_check, frame_check, scans_file_check, field_checks, naturals, tables, refusal_line, printed_verdict, printed_as, printed}
use Rattle.format.specs.NeedsTable.{needs_known, needs_page, needs_verdict, needs_printed}
use Rattle.csv_field.specs.Field.{most64}
use Rattle.csv_value.specs.Decimals.{signed_of}
use Rattle.csv_cursor.specs.declared.Reader.{Reader}
use Rattle.csv_cursor.specs.Passing.{fresh_reader}
use Rattle.csv_records.specs.Automaton.{feed_all, emitted, Fed, Finished}
use Rattle.csv_records.specs.Pieces.{pieces_join}
use Rattle.csv_records.specs.Fields.{stored_number}
use Rattle.csv_records.specs.Reading.{answered}
use Rattle.csv_records.specs.Files.{Calls, read_frame, read_states, read_moves, read_presets, read_pairs, read_scans, stored_are, moves_are}
use Rattle.check_tables.specs.Verdicts.{is_refused, stop, go}
use Rattle.csv_columns.specs.Low.{low16, low32}
use Rattle.write_lines.specs.Put.{BytesPut}
use Rattle.csv_tables.specs.declared.Answers.{Answers}
use Rattle.csv_tables.specs.Told.{rows_of, later, field_verdict}
use Rattle.print_lines.specs.declared.Printed.{Printed}
use Rattle.print_needs.specs.Lengths.{most_needs}
use Rattle.print_text.specs.declared.Stored.{Stored}
use Rattle.print_text.specs.declared.PageKind.{PageKind}
use Rattle.print_text.specs.declared.PageKind.TheVariants.{Text, Needs}
use Rattle.print_text.specs.Lengths.{most_printed, page_room, printed_few, refusal_short}
use Rattle.print_text.specs.Print.{page_verdict, printed_of, held_tables, held_scans, PrintedTo, TablesPrinted, FilesPrinted, map_take, narrowed, narrowed_front}
use Rattle.print_text.specs.Kept.{sets_none, kept_front, rows_pass, answered_rows, numbers_long, file_front, low16_same, low32_same}
use Rattle.print_text.specs.Fronts.{FrontOf, front_prints}

-- ---- what main does: each file is read piece after piece into a buffer, the frame's into a cleared one

unfoldable pub joined_pieces : List (List ℕ) → List ℕ
joined_pieces [] = []
joined_pieces (p ∷ ps) = p ++ joined_pieces ps

-- one call of `feed` for each piece
pub data FedPieces : Reader → List (List ℕ) → List ℕ → Reader → List ℕ → Type 0 where
  none : {r : Reader} {out : List ℕ} → FedPieces r [] out r out
  more : {r t : Reader} {p : List ℕ} {ps : List (List ℕ)} {out left : List ℕ} (s : Reader) (mid : List ℕ) → Fed r p out s mid → FedPieces s ps mid t left → FedPieces r (p ∷ ps) out t left

-- a file's bytes in whatever pieces, and then its end; a missing file has none
pub record CallsOn (r : Reader) (bs out : List ℕ) (a : Answer) (left : List ℕ) : Type 0 where
  pub pieces : List (List ℕ)
  pub cut : joined_pieces pieces ≡ bs
  pub state : Reader
  pub between : List ℕ
  pub fed : FedPieces r pieces out state between
  pub finished : Finished state between a left
  pub room : length out ≤ most64

pub record FileStored (n : ℕ) (r : Reader) (bs : List ℕ) (a : Answer) (left : List ℕ) : Type 0 where
  pub buffer : List ℕ
  pub long : length buffer ≡ n
  pub calls : CallsOn r bs buffer a left
  -- a file of no more records than a count holds
  pub countable : length (records bs) ≤ most64

pub record Loaded (f : Files) (a : Answers) (stored : Stored) : Type 0 where
  pub of_frame : CallsOn (fresh_reader 4294967295 0 2 1 1) f.frame (0 ∷ 0 ∷ 0 ∷ []) a.frame stored.frame.now
  pub of_states : FileStored 514 (fresh_reader 65535 0 1 0 most64) f.states a.states stored.states.now
  pub of_moves : FileStored 5643 (fresh_reader 32767 32768 10 0 most64) f.moves a.moves stored.moves.now
  pub of_presets : FileStored 33 (fresh_reader 4294967295 0 0 0 most64) f.presets a.presets stored.presets.now
  pub of_timer_pairs : FileStored 4098 (fresh_reader 65535 0 1 0 most64) f.timer_pairs a.timer_pairs stored.timer_pairs.now
  pub of_output_pairs : FileStored 4098 (fresh_reader 65535 0 1 0 most64) f.output_pairs a.output_pairs stored.output_pairs.now
  pub of_scans : FileStored 4096 (fresh_reader 18446744073709551615 0 0 0 4096) f.scans a.scans stored.scans.now

fed_room : (r s : Reader) (p out mid : List ℕ) → Fed r p out s mid → length out ≤ most64 → length mid ≤ most64
fed_room r s p out mid f h = omega (arith, ap length f.stored, length-sets out r.at (emitted r p), h)

-- however it was cut, it is the file fed whole
fed_whole : {r t : Reader} {ps : List (List ℕ)} {out left : List ℕ} → length out ≤ most64 → FedPieces r ps out t left → Fed r (joined_pieces ps) out t left
unfolding joined_pieces feed_all emitted
fed_whole h none = record { state = refl; stored = refl }
fed_whole h (more s mid f g) = pieces_join _ s _ _ _ _ mid _ h f (fed_whole (fed_room _ s _ _ mid f h) g)

pub calls_whole : {r : Reader} {bs out left : List ℕ} {a : Answer} → CallsOn r bs out a left → Calls r bs out a left
calls_whole c = record {
  state = c.state;
  between = c.between;
  fed = rw c.cut at (fed_whole c.room c.fed);
  finished = c.finished;
  room = c.room;
}

-- ---- the tables that are held are the fronts of the files' tables

states_front : (bs left : List ℕ) (a : Answer) → FileStored 514 (fresh_reader 65535 0 1 0 most64) bs a left → a ≡ Ok (rows_of a) → narrowed 0 514 low16 (2 * rows_of a) left ≡ take 514 (naturals bs)
states_front bs left a s rows =
    let r = read_states bs s.countable s.buffer a left (calls_whole s.calls) in
    let z = stored_are 65535 bs (r.typed (rows_of a) rows) in
    let lf : length left ≡ 514 = ap length (r.stores (rows_of a) rows) ∙ (length-sets s.buffer 0 (map stored_number (numbers bs)) ∙ s.long) in
    narrowed_front 0 514 low16 (2 * rows_of a) left lf ∙ rw (file_front (unsigned 16) 2 bs s.buffer left a (rows_of a) 514 r rows s.long, z.0) (map_take low16 514 (naturals bs) ∙ ap (take 514) (low16_same (naturals bs) z.1))

pairs_front : (bs left : List ℕ) (a : Answer) → FileStored 4098 (fresh_reader 65535 0 1 0 most64) bs a left → a ≡ Ok (rows_of a) → narrowed 0 4098 low16 (2 * rows_of a) left ≡ take 4098 (naturals bs)
pairs_front bs left a s rows =
    let r = read_pairs bs s.countable s.buffer a left (calls_whole s.calls) in
    let z = stored_are 65535 bs (r.typed (rows_of a) rows) in
    let lf : length left ≡ 4098 = ap length (r.stores (rows_of a) rows) ∙ (length-sets s.buffer 0 (map stored_number (numbers bs)) ∙ s.long) in
    narrowed_front 0 4098 low16 (2 * rows_of a) left lf ∙ rw (file_front (unsigned 16) 2 bs s.buffer left a (rows_of a) 4098 r rows s.long, z.0) (map_take low16 4098 (naturals bs) ∙ ap (take 4098) (low16_same (naturals bs) z.1))

moves_front : (bs left : List ℕ) (a : Answer) → FileStored 5643 (fresh_reader 32767 32768 10 0 most64) bs a left → a ≡ Ok (rows_of a) → narrowed (pos 0) 5643 signed_of (move_row * rows_of a) left ≡ take 5643 (numbers bs)
moves_front bs left a s rows =
    let r = read_moves bs s.countable s.buffer a left (calls_whole s.calls) in
    let lf : length left ≡ 5643 = ap length (r.stores (rows_of a) rows) ∙ (length-sets s.buffer 0 (map stored_number (numbers bs)) ∙ s.long) in
    narrowed_front (pos 0) 5643 signed_of (move_row * rows_of a) left lf ∙ rw (file_front signed16 move_row bs s.buffer left a (rows_of a) 5643 r rows s.long) (map_take signed_of 5643 (map stored_number (numbers bs)) ∙ ap (take 5643) (moves_are bs (r.typed (rows_of a) rows)))

presets_front : (bs left : List ℕ) (a : Answer) → FileStored 33 (fresh_reader 4294967295 0 0 0 most64) bs a left → a ≡ Ok (rows_of a) → narrowed 0 33 low32 (rows_of a) left ≡ take 33 (naturals bs)
presets_front bs left a s rows =
    let r = read_presets bs s.countable s.buffer a left (calls_whole s.calls) in
    let z = stored_are 4294967295 bs (r.typed (rows_of a) rows) in
    let one : rows_of a ≡ 1 * rows_of a = omega arith in
    let e : take (rows_of a) left ≡ take 33 (map stored_number (numbers bs)) = ap (λ (k : ℕ). take k left) one ∙ file_front (unsigned 32) 1 bs s.buffer left a (rows_of a) 33 r rows s.long in
    let lf : length left ≡ 33 = ap length (r.stores (rows_of a) rows) ∙ (length-sets s.buffer 0 (map stored_number (numbers bs)) ∙ s.long) in
    narrowed_front 0 33 low32 (rows_of a) left lf ∙ rw (e, z.0) (map_take low32 33 (naturals bs) ∙ ap (take 33) (low32_same (naturals bs) z.1))

-- the frame: three numbers over a cleared buffer
frame_at : (w : List ℕ) → (get_or (sets (0 ∷ 0 ∷ 0 ∷ []) 0 w) 0 0 ≡ get_or w 0 0) × (get_or (sets (0 ∷ 0 ∷ 0 ∷ []) 0 w) 1 0 ≡ get_or w 1 0) × (get_or (sets (0 ∷ 0 ∷ 0 ∷ []) 0 w) 2 0 ≡ get_or w 2 0)
frame_at [] = (refl, refl, refl)
frame_at (x ∷ []) = (refl, refl, refl)
frame_at (x ∷ y ∷ []) = (refl, refl, refl)
frame_at (x ∷ y ∷ z ∷ w) = rw (sets_none w (x ∷ y ∷ z ∷ []) 3 (omega arith)) (refl, refl, refl)

low_at : (l : List ℕ) (i : ℕ) → map low32 l ≡ l → low32 (get_or l i 0) ≡ get_or l i 0
low_at l i e = sym (get_or-map low32 l i 0) ∙ ap (λ (k : List ℕ). get_or k i 0) e

frame_front : (bs left : List ℕ) (a : Answer) → CallsOn (fresh_reader 4294967295 0 2 1 1) bs (0 ∷ 0 ∷ 0 ∷ []) a left → a ≡ Ok (rows_of a)
    → (low32 (get_or left 0 0) ≡ get_or (naturals bs) 0 0) × (low32 (get_or left 1 0) ≡ get_or (naturals bs) 1 0) × (low32 (get_or left 2 0) ≡ get_or (naturals bs) 2 0)
frame_front bs left a c rows =
    let r = read_frame bs (0 ∷ 0 ∷ 0 ∷ []) a left (calls_whole c) in
    let z = stored_are 4294967295 bs (r.typed (rows_of a) rows) in
    let e : left ≡ sets (0 ∷ 0 ∷ 0 ∷ []) 0 (naturals bs) = r.stores (rows_of a) rows ∙ ap (sets (0 ∷ 0 ∷ 0 ∷ []) 0) z.0 in
    let f = frame_at (naturals bs) in
    let s = low32_same (naturals bs) z.1 in
    rw e (ap low32 f.0 ∙ low_at (naturals bs) 0 s, ap low32 f.1 ∙ low_at (naturals bs) 1 s, ap low32 f.2 ∙ low_at (naturals bs) 2 s)

-- ---- FIELD, file by file

later_check : (k : Check) (n : ℕ) (ks : List Check) (a : Answer) (v : Verdict) → a ≡ answered k n → v ≡ verdict_of ks → later a v ≡ verdict_of (k ∷ ks)
unfolding verdict_of answered
later_check k n ks a v e f = rw (e, f) (elim (which (eqb (first_failing k) k.rows)) [ inl g ↦ rw (verdict_of, g) | inr g ↦ rw (verdict_of, g) ])

later_rows : (x : Answer) (v : Verdict) → later x v ≡ (Ok tt) → (x ≡ Ok (rows_of x)) × (v ≡ (Ok tt))
later_rows (Ok n) v e = (refl, e)
later_rows (Err r) v e = (let z : ◌≡◌ {A = ℕ} 0 1 = cc in absurd (omega arith))

-- scans.csv: "at most 4,096", all of them kept
scans_all : (bs left : List ℕ) (a : Answer) → FileStored 4096 (fresh_reader 18446744073709551615 0 0 0 4096) bs a left → a ≡ Ok (rows_of a) → take (min (rows_of a) 4096) left ≡ naturals bs
unfolding scans_file_check record_at numbers
scans_all bs left a s rows =
    let r = read_scans bs s.buffer a left (calls_whole s.calls) in
    let z = stored_are 18446744073709551615 bs (r.typed (rows_of a) rows) in
    let q = answered_rows (scans_file_check bs) (length (records bs)) (rows_of a) (sym r.answer ∙ rows) in
    let p = rows_pass (scans_file_check bs) q.0 in
    let few : length (records bs) ≤ 4096 = elim (dec_le (length (records bs)) 4096) [ yes h ↦ h | no h ↦ (let y = ltb-true 4096 4096 (and_l (ltb 4096 4096) (record_passes (unsigned 64) 1 (get_or (records bs) 4096 [])) (p 4096 (omega arith))) in absurd (omega arith)) ] in
    let long : length (map stored_number (numbers bs)) ≡ length (records bs) = length-map (numbers bs) stored_number ∙ (numbers_long (unsigned 64) 1 (records bs) (λ j h. and_r (ltb j 4096) (record_passes (unsigned 64) 1 (get_or (records bs) j [])) (p j h)) ∙ omega arith) in
    let n : min (rows_of a) 4096 ≡ length (records bs) = omega (arith, q.1) in
    let e : take (length (records bs)) left ≡ take 4096 (map stored_number (numbers bs)) = kept_front (map stored_number (numbers bs)) s.buffer left (length (records bs)) 4096 s.long (r.stores (rows_of a) rows) long in
    rw n (e ∙ (take_all 4096 (map stored_number (numbers bs)) (omega (arith, long)) ∙ z.0))

-- FIELD has number 16
field_number : (k : Check) (ks : List Check) → k.refusal ≡ R.Field → ((q : Refusal) → verdict_of ks ≡ Err q → number_of q ≡ 16) → (q : Refusal) → verdict_of (k ∷ ks) ≡ Err q → number_of q ≡ 16
unfolding verdict_of
field_number k ks h rest q e = elim (which (eqb (first_failing k) k.rows)) [
  | inl g ↦ rest q (rw (verdict_of, g) at e)
  | inr g ↦ (let z : Err (k.refusal (first_failing k)) ≡ Err q = rw (verdict_of, g) at e in
      let y : k.refusal (first_failing k) ≡ q = cc in rw (← y, h) refl)
]

no_more : (q : Refusal) → verdict_of [] ≡ Err q → number_of q ≡ 16
unfolding verdict_of
no_more q e = (let z : ◌≡◌ {A = ℕ} 0 1 = cc in absurd (omega arith))

-- and is one line, whatever the tables
field_line : (page : PageKind) (c : Tables) (xs : List ℕ) (q : Refusal) → number_of q ≡ 16 → printed_of page c xs (Err q) ≡ refusal_line q
unfolding printed_of needs_page needs_known
field_line Text c xs q h = refl
field_line Needs c xs q h = rw h

front_written : (l w m : List ℕ) (r : ℕ) → BytesPut l 0 w m r → length w ≤ length l → take r m ≡ w
front_written l w m r p h =
    let e : sets l 0 w ≡ w ++ drop (0 + length w) l = sets-eq w l 0 (omega arith) in
    rw (p.list, e) (take_at w (drop (0 + length w) l) r (omega (arith, p.next, p.fits)))

-- ---- the theorem

-- the verdict that a page is printed for, and what is printed, as they are defined from the files' bytes
abbrev pub files_verdict : PageKind → Files → Verdict
files_verdict Text f = printed_verdict f
files_verdict Needs f = needs_verdict f

abbrev pub files_printed : PageKind → Files → List ℕ
files_printed Text f = printed f
files_printed Needs f = needs_printed f

module _ (f : Files) (a : Answers) (stored : Stored) (load : Loaded f a stored) where
  abbrev held : Tables
  held = held_tables a stored

  -- the checks after the first, and so on
  abbrev k7 : List Check
  k7 = scans_file_check f.scans ∷ []

  abbrev k6 : List Check
  k6 = file_check (unsigned 16) pair_row f.output_pairs ∷ k7

  abbrev k5 : List Check
  k5 = file_check (unsigned 16) pair_row f.timer_pairs ∷ k6

  abbrev k4 : List Check
  k4 = file_check (unsigned 32) 1 f.presets ∷ k5

  abbrev k3 : List Check
  k3 = file_check signed16 move_row f.moves ∷ k4

  abbrev k2 : List Check
  k2 = file_check (unsigned 16) state_row f.states ∷ k3

  field_is : field_verdict a ≡ verdict_of (field_checks f)
  unfolding field_checks verdict_of
  field_is =
      later_check (frame_check f.frame) _ k2 a.frame _ (read_frame f.frame _ a.frame stored.frame.now (calls_whole load.of_frame)).answer
      (later_check (file_check (unsigned 16) state_row f.states) _ k3 a.states _ (read_states f.states load.of_states.countable _ a.states stored.states.now (calls_whole load.of_states.calls)).answer
      (later_check (file_check signed16 move_row f.moves) _ k4 a.moves _ (read_moves f.moves load.of_moves.countable _ a.moves stored.moves.now (calls_whole load.of_moves.calls)).answer
      (later_check (file_check (unsigned 32) 1 f.presets) _ k5 a.presets _ (read_presets f.presets load.of_presets.countable _ a.presets stored.presets.now (calls_whole load.of_presets.calls)).answer
      (later_check (file_check (unsigned 16) pair_row f.timer_pairs) _ k6 a.timer_pairs _ (read_pairs f.timer_pairs load.of_timer_pairs.countable _ a.timer_pairs stored.timer_pairs.now (calls_whole load.of_timer_pairs.calls)).answer
      (later_check (file_check (unsigned 16) pair_row f.output_pairs) _ k7 a.output_pairs _ (read_pairs f.output_pairs load.of_output_pairs.countable _ a.output_pairs stored.output_pairs.now (calls_whole load.of_output_pairs.calls)).answer
      (later_check (scans_file_check f.scans) _ [] a.scans (Ok tt) (read_scans f.scans _ a.scans stored.scans.now (calls_whole load.of_scans.calls)).answer refl))))))

  front_of : field_verdict a ≡ (Ok tt) → FrontOf held (tables f) × (held_scans a stored ≡ naturals f.scans)
  unfolding tables
  front_of e =
      let r1 = later_rows a.frame _ e in
      let r2 = later_rows a.states _ r1.1 in
      let r3 = later_rows a.moves _ r2.1 in
      let r4 = later_rows a.presets _ r3.1 in
      let r5 = later_rows a.timer_pairs _ r4.1 in
      let r6 = later_rows a.output_pairs _ r5.1 in
      let r7 = later_rows a.scans (Ok tt) r6.1 in
      let g = frame_front f.frame stored.frame.now a.frame load.of_frame r1.0 in (
        record {
          scan_step = g.0;
          inputs = g.1;
          outputs = g.2;
          states = states_front f.states stored.states.now a.states load.of_states r2.0;
          moves = moves_front f.moves stored.moves.now a.moves load.of_moves r3.0;
          presets = presets_front f.presets stored.presets.now a.presets load.of_presets r4.0;
          timer_pairs = pairs_front f.timer_pairs stored.timer_pairs.now a.timer_pairs load.of_timer_pairs r5.0;
          output_pairs = pairs_front f.output_pairs stored.output_pairs.now a.output_pairs load.of_output_pairs r6.0;
        },
        scans_all f.scans stored.scans.now a.scans load.of_scans r7.0,
      )

  printed_as_lem : (v : Verdict) → printed_as f v ≡ printed_of Text (tables f) (naturals f.scans) v
  unfolding printed_as printed_of
  printed_as_lem (Ok tt) = refl
  printed_as_lem (Err r) = refl

  printed_is : (page : PageKind) (v : Verdict) → files_verdict page f ≡ v → files_printed page f ≡ printed_of page (tables f) (naturals f.scans) v
  unfolding printed needs_printed printed_of
  printed_is Text v e = ap (printed_as f) e ∙ printed_as_lem v
  printed_is Needs v e = ap (needs_page (tables f)) e

  -- FIELD, or what comes after it
  field_refuses : (page : PageKind) (q : Refusal) → field_verdict a ≡ Err q → files_verdict page f ≡ Err q
  unfolding printed_verdict needs_verdict
  field_refuses Text q e = stop (field_checks f) _ (ap is_refused (sym field_is ∙ e)) ∙ (sym field_is ∙ e)
  field_refuses Needs q e = stop (field_checks f) _ (ap is_refused (sym field_is ∙ e)) ∙ (sym field_is ∙ e)

  field_passes : (page : PageKind) → field_verdict a ≡ (Ok tt) → files_verdict page f ≡ page_verdict page (tables f)
  unfolding printed_verdict needs_verdict page_verdict verdict
  field_passes Text e = go (field_checks f) _ (ap is_refused (sym field_is ∙ e))
  field_passes Needs e = go (field_checks f) _ (ap is_refused (sym field_is ∙ e))

  is_field : (q : Refusal) → field_verdict a ≡ Err q → number_of q ≡ 16
  unfolding field_checks frame_check file_check scans_file_check
  is_field q e = field_number _ k2 refl (field_number _ k3 refl (field_number _ k4 refl (field_number _ k5 refl (field_number _ k6 refl (field_number _ k7 refl (field_number _ [] refl no_more)))))) q (sym field_is ∙ e)

  field_printed : (page : PageKind) (q : Refusal) → field_verdict a ≡ Err q → files_printed page f ≡ refusal_line q
  field_printed page q e = printed_is page (Err q) (field_refuses page q e) ∙ field_line page (tables f) (naturals f.scans) q (is_field q e)

  fits_by : (page : PageKind) (w : Verdict) → field_verdict a ≡ w → length (files_printed page f) ≤ page_room page
  fits_by page (Err q) e = rw (field_printed page q e) (refusal_short page q)
  fits_by page (Ok tt) e = rw (printed_is page (page_verdict page (tables f)) (field_passes page e))
      (printed_few page (tables f) (naturals f.scans) (omega (arith, ap length (front_of e).1, length-take (min (rows_of a.scans) 4096) stored.scans.now)))

  -- whatever the files hold, there is an end to what is printed
  pub page_fits : (page : PageKind) → length (files_printed page f) ≤ page_room page
  page_fits page = fits_by page (field_verdict a) refl

  pub printed_fits : length (printed f) ≤ most_printed
  printed_fits = page_fits Text

  pub needs_fit : length (needs_printed f) ≤ most_needs
  needs_fit = page_fits Needs

  module _ (page : PageKind) (l m : List ℕ) (p : Printed) (call : FilesPrinted page a stored l p m) where
    abbrev PagePrints : Type 0
    PagePrints = (p.verdict ≡ files_verdict page f) × BytesPut l 0 (files_printed page f) m p.length

    by_field : (w : Verdict) → field_verdict a ≡ w → PagePrints
    by_field (Err q) e =
        let c : PrintedTo (Err q) (refusal_line q) l p m = rw e at call in
        (c.why ∙ sym (field_refuses page q e), rw (field_printed page q e) c.written)
    by_field (Ok tt) e =
        let v = field_passes page e in
        let t = front_of e in
        let s = front_prints page held (tables f) t.0 (naturals f.scans) in
        let c : TablesPrinted page held (held_scans a stored) l p m = rw e at call in
        let d : BytesPut l 0 (printed_of page held (naturals f.scans) (page_verdict page held)) m p.length = rw t.1 at c.written in
        (c.why ∙ (s.0 ∙ sym v), rw (printed_is page (page_verdict page (tables f)) v, ← s.1) d)

    -- what the program prints is what is defined, and its verdict too, however the files were cut into pieces
    pub page_prints : PagePrints
    page_prints = by_field (field_verdict a) refl

    -- main's buffer holds it, and the bytes that it writes are those
    pub length_page : page_room page ≤ length l → p.length ≤ length l
    length_page h = omega (arith, page_prints.1.next, page_fits page)

    pub bytes_page : page_room page ≤ length l → take p.length m ≡ files_printed page f
    bytes_page h = front_written l (files_printed page f) m p.length page_prints.1 (omega (arith, page_fits page))

  -- the same of the text and its run
  module _ (l m : List ℕ) (p : Printed) (call : FilesPrinted Text a stored l p m) where
    pub prints : (p.verdict ≡ printed_verdict f) × BytesPut l 0 (printed f) m p.length
    prints = page_prints Text l m p call

    pub length_printed : most_printed ≤ length l → p.length ≤ length l
    length_printed h = length_page Text l m p call h

    pub bytes_printed : most_printed ≤ length l → take p.length m ≡ printed f
    bytes_printed h = bytes_page Text l m p call h

  -- and of what the moves need
  module _ (l m : List ℕ) (p : Printed) (call : FilesPrinted Needs a stored l p m) where
    pub prints_needs : (p.verdict ≡ needs_verdict f) × BytesPut l 0 (needs_printed f) m p.length
    prints_needs = page_prints Needs l m p call

    pub length_needs : most_needs ≤ length l → p.length ≤ length l
    length_needs h = length_page Needs l m p call h

    pub bytes_needs : most_needs ≤ length l → take p.length m ≡ needs_printed f
    bytes_needs h = bytes_page Needs l m p call h
