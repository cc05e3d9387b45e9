-- What is printed on either page, from what the seven readers of records answered and stored. That this is what format's Printed.antt and NeedsTable.antt say of the files is in Prints.antt.
use Rattle.meaning.specs.Refusals.{Verdict}
use Rattle.std.specs.Prelude.{◌≡◌, refl, ℕ, zero, suc, ◌+◌, ◌*◌, min, List, [], ◌∷◌, ◌++◌, map, length, get_or, take, replicate, pos, Ok, Err}
use Rattle.std.proofs.Common.{sym, ap, ◌∙◌, arith, append-nil, drop_of_length-le, take_all}
use Rattle.std.proofs.Math.Decide.{dec_le}
use Rattle.std.proofs.lemmas.List.{length-map, length-replicate}
use Rattle.std.proofs.lemmas.List.Edits.{sets, sets-eq}
use Rattle.meaning.specs.Tables.{Tables, move_row}
use Rattle.meaning.specs.Check.{checks, verdict_of, verdict}
use Rattle.meaning.specs.Machine.{start_state, trace}
use Rattle.meaning.specs.declared.Refusal.{Refusal}
use Rattle.format.specs.Printed.{most_text, chart_text, room_check, scan_lines, refusal_line}
use Rattle.format.specs.NeedsTable.{needs_page}
use Rattle.csv_value.specs.Decimals.{signed_of}
use Rattle.csv_columns.specs.Low.{low16, low32}
use Rattle.write_lines.specs.Put.{BytesPut}
use Rattle.print_lines.specs.Results.{scan_lines_from}
use Rattle.csv_tables.specs.declared.Answers.{Answers}
use Rattle.csv_tables.specs.Told.{rows_of, field_verdict}
use Rattle.print_lines.specs.declared.Printed.{Printed}
use Rattle.print_needs.specs.Page.{NeedsPrintedTo}
use Rattle.print_text.specs.declared.Stored.{Stored}
use Rattle.print_text.specs.declared.PageKind.{PageKind}
use Rattle.print_text.specs.declared.PageKind.TheVariants.{Text, Needs}

-- the refusals after FIELD; ROOM is looked for where a text is written
unfoldable pub page_verdict : PageKind → Tables → Verdict
page_verdict Text c = verdict_of (checks c ++ (room_check c most_text ∷ []))
page_verdict Needs c = verdict c

-- what is printed for tables, input words and a verdict
unfoldable pub printed_of : PageKind → Tables → List ℕ → Verdict → List ℕ
printed_of Text c xs (Ok tt) = chart_text c ++ scan_lines 1 (trace c (start_state c) xs)
printed_of Text c xs (Err r) = refusal_line r
printed_of Needs c xs v = needs_page c v

-- what an array of m numbers in a table's type has of k stored numbers
unfoldable pub narrowed : {A : Type 0} → A → ℕ → (ℕ → A) → ℕ → List ℕ → List A
narrowed z m f k l = take (min k m) (sets (replicate m z) 0 (map f l))

-- the tables that the stored numbers make: as many rows of each as there are, or as were kept
abbrev pub held_tables : Answers → Stored → Tables
held_tables a stored = record {
  scan_step = low32 (get_or stored.frame.now 0 0);
  inputs = low32 (get_or stored.frame.now 1 0);
  outputs = low32 (get_or stored.frame.now 2 0);
  states = narrowed 0 514 low16 (2 * rows_of a.states) stored.states.now;
  moves = narrowed (pos 0) 5643 signed_of (move_row * rows_of a.moves) stored.moves.now;
  presets = narrowed 0 33 low32 (rows_of a.presets) stored.presets.now;
  timer_pairs = narrowed 0 4098 low16 (2 * rows_of a.timer_pairs) stored.timer_pairs.now;
  output_pairs = narrowed 0 4098 low16 (2 * rows_of a.output_pairs) stored.output_pairs.now;
}

abbrev pub held_scans : Answers → Stored → List ℕ
held_scans a stored = take (min (rows_of a.scans) 4096) stored.scans.now

abbrev pub both : Verdict → Verdict → Verdict
both (Ok tt) v = v
both (Err r) v = Err r

-- FIELD is one line on either page
abbrev pub after_field : Verdict → List ℕ → List ℕ
after_field (Ok tt) w = w
after_field (Err r) w = refusal_line r

-- ---- contracts

-- a call with the verdict v that writes w to the front of l
pub record PrintedTo (v : Verdict) (w l : List ℕ) (p : Printed) (m : List ℕ) : Type 0 where
  pub why : p.verdict ≡ v
  pub written : BytesPut l 0 w m p.length

abbrev pub TextPrinted : ℕ → List ℕ → List ℕ → List ℕ → List ℕ → Printed → List ℕ → Type 0
TextPrinted n text leaves outputs l p m = PrintedTo (Ok tt) (take n text ++ scan_lines_from 1 leaves outputs) l p m

abbrev pub TablesPrinted : PageKind → Tables → List ℕ → List ℕ → Printed → List ℕ → Type 0
TablesPrinted page c xs l p m = PrintedTo (page_verdict page c) (printed_of page c xs (page_verdict page c)) l p m

abbrev pub RowsPrinted : PageKind → Answers → Stored → List ℕ → Printed → List ℕ → Type 0
RowsPrinted page a stored l p m = TablesPrinted page (held_tables a stored) (held_scans a stored) l p m

abbrev pub FilesPrinted : PageKind → Answers → Stored → List ℕ → Printed → List ℕ → Type 0
FilesPrinted page a stored l p m = (let c = held_tables a stored in
    PrintedTo (both (field_verdict a) (page_verdict page c)) (after_field (field_verdict a) (printed_of page c (held_scans a stored) (page_verdict page c))) l p m)

-- no second answer
pub one_print : (v : Verdict) (w l m n : List ℕ) (p q : Printed) → PrintedTo v w l p m → PrintedTo v w l q n → (p ≡ q) × (m ≡ n)
one_print v w l m n p q f g =
    (λ i. record { length = (f.written.next ∙ sym g.written.next) i; verdict = (f.why ∙ sym g.why) i }, f.written.list ∙ sym g.written.list)

-- the page of needs, as it is written
pub needs_printed_lem : (c : Tables) (xs l : List ℕ) (p : Printed) (m : List ℕ) → NeedsPrintedTo c l p m → TablesPrinted Needs c xs l p m
unfolding page_verdict printed_of
needs_printed_lem c xs l p m q = record { why = q.why; written = q.written }

-- ---- the numbers in their types

pub map_take : {A : Type 0} (f : ℕ → A) (k : ℕ) (l : List ℕ) → map f (take k l) ≡ take k (map f l)
map_take f zero l = refl
map_take f (suc k) [] = refl
map_take f (suc k) (x ∷ l) = ap (λ r. f x ∷ r) (map_take f k l)

take_least : {A : Type 0} (k m : ℕ) (l : List A) → length l ≡ m → take (min k m) l ≡ take k l
take_least k m l h = elim (dec_le k m) [
  | yes g ↦ (let e : min k m ≡ k = omega arith in rw e)
  | no g ↦ (let e : min k m ≡ m = omega arith in rw e (take_all m l (omega arith) ∙ sym (take_all k l (omega arith))))
]

sets_whole : {A : Type 0} (z w : List A) → length z ≡ length w → sets z 0 w ≡ w
sets_whole z w h = sets-eq w z 0 (omega arith) ∙ rw (drop_of_length-le z {i = 0 + length w} (omega arith)) (append-nil w)

pub least_twice : (k m : ℕ) → min (min k m) m ≡ min k m
least_twice k m = omega arith

pub narrowed_is : {A : Type 0} (z : A) (m : ℕ) (f : ℕ → A) (k : ℕ) (l : List ℕ) (s : List A) (n : ℕ) → s ≡ sets (replicate m z) 0 (map f l) → n ≡ min k m → take n s ≡ narrowed z m f k l
unfolding narrowed
narrowed_is z m f k l s n e h = rw (e, h)

-- of an array of the same length
pub narrowed_front : {A : Type 0} (z : A) (m : ℕ) (f : ℕ → A) (k : ℕ) (l : List ℕ) → length l ≡ m → narrowed z m f k l ≡ map f (take k l)
unfolding narrowed
narrowed_front z m f k l h =
    let w : sets (replicate m z) 0 (map f l) ≡ map f l = sets_whole (replicate m z) (map f l) (length-replicate m z ∙ sym (length-map l f ∙ h)) in
    rw w (take_least k m (map f l) (length-map l f ∙ h) ∙ sym (map_take f k l))

pub scans_part : (k n m : ℕ) (l : List ℕ) → n ≡ min k m → take (min n (length l)) l ≡ take (min k m) l
scans_part k n m l e = take_least n (length l) l refl ∙ rw e

-- tables and input words that are the same are printed the same
pub same_printed : (page : PageKind) (c k : Tables) (xs ys l : List ℕ) (p : Printed) (m : List ℕ) → c ≡ k → xs ≡ ys → TablesPrinted page c xs l p m → TablesPrinted page k ys l p m
same_printed page c k xs ys l p m e f q = rw (← e, ← f) q

-- FIELD, or what comes after it
pub printed_refused : (page : PageKind) (a : Answers) (stored : Stored) (l : List ℕ) (p : Printed) (m : List ℕ) (q : Refusal) → field_verdict a ≡ Err q
    → PrintedTo (Err q) (refusal_line q) l p m → FilesPrinted page a stored l p m
printed_refused page a stored l p m q e r = rw e r

pub printed_rows : (page : PageKind) (a : Answers) (stored : Stored) (l : List ℕ) (p : Printed) (m : List ℕ) → field_verdict a ≡ (Ok tt)
    → RowsPrinted page a stored l p m → FilesPrinted page a stored l p m
printed_rows page a stored l p m e r = rw e r
