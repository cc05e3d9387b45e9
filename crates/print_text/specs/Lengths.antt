-- How long the lines are that stand beside the text, so that one buffer is room enough for whatever is printed.
use Rattle.meaning.specs.Refusals.{Verdict}
use Rattle.std.specs.Prelude.{◌≡◌, refl, ℕ, suc, ◌*◌, ◌≤◌, min, List, [], ◌∷◌, ◌++◌, map, length, Ok, Err}
use Rattle.std.proofs.Common.{ap, sym, ◌∙◌, arith, length-append, length-take, leb-true}
use Rattle.std.proofs.lemmas.List.{length-map}
use Rattle.meaning.specs.Tables.{Tables}
use Rattle.meaning.specs.Check.{checks, verdict_of, verdict}
use Rattle.meaning.specs.Machine.{Seen, State, state_after_step, start_state, trace}
use Rattle.meaning.specs.declared.Refusal.{Refusal}
use Rattle.format.specs.Text.{decimal}
use Rattle.format.proofs.Laws.Decimals.{decimal_few}
use Rattle.format.specs.Printed.{chart_text, room_check, scan_lines, refusal_line, most_text}
use Rattle.check_tables.specs.Verdicts.{is_refused, go, passed}
use Rattle.csv_tables.specs.declared.Answers.{Answers}
use Rattle.csv_tables.specs.Told.{rows_of}
use Rattle.print_lines.specs.declared.Printed.{Printed}
use Rattle.print_lines.specs.Results.{end_of, scan_lines_from, end_few, refusal_few, lines_are}
use Rattle.print_needs.specs.Lengths.{most_needs, needs_page_few}
use Rattle.print_text.specs.declared.Stored.{Stored}
use Rattle.print_text.specs.declared.PageKind.{PageKind}
use Rattle.print_text.specs.declared.PageKind.TheVariants.{Text, Needs}
use Rattle.print_text.specs.Print.{page_verdict, printed_of, held_tables, held_scans, PrintedTo, RowsPrinted}
use Rattle.print_text.specs.Ran.{page_tables}

-- 65,536 bytes of text and 4,096 lines of 63, three decimals of at most 20 digits each
abbrev pub most_printed : ℕ
most_printed = 323584

-- how much room a page is given
abbrev pub page_room : PageKind → ℕ
page_room Text = most_printed
page_room Needs = most_needs

-- more than either page is given
abbrev pub page_most : ℕ
page_most = 327680

lines_few : (n : ℕ) (ls os : List ℕ) → length (scan_lines_from n ls os) ≤ 63 * length ls
unfolding scan_lines_from
lines_few n [] os = omega arith
lines_few n (l ∷ ls) [] = omega arith
lines_few n (l ∷ ls) (o ∷ os) =
    omega (arith, length-append (decimal n ++ end_of l o) (scan_lines_from (suc n) ls os), end_few (decimal n) l o, decimal_few n, lines_few (suc n) ls os)

trace_long : (c : Tables) (s : State) (xs : List ℕ) → length (trace c s xs) ≡ length xs
unfolding trace
trace_long c s [] = refl
trace_long c s (x ∷ xs) = ap suc (trace_long c (state_after_step c x s) xs)

scan_lines_few : (n : ℕ) (ss : List Seen) → length (scan_lines n ss) ≤ 63 * length ss
scan_lines_few n ss = rw (← lines_are n ss)
    (omega (arith, lines_few n (map (λ (s : Seen). s.leaf) ss) (map (λ (s : Seen). s.outputs) ss), length-map ss (λ (s : Seen). s.leaf)))

text_few : (c : Tables) → page_verdict Text c ≡ (Ok tt) → length (chart_text c) ≤ most_text
text_few c e = leb-true (length (chart_text c)) most_text (unfold room_check in (passed (room_check c most_text) (ap is_refused (room_accepted e)) 0 (omega arith)))
  where
    room_accepted : page_verdict Text c ≡ (Ok tt) → verdict_of (room_check c most_text ∷ []) ≡ (Ok tt)
    room_accepted e = unfold page_verdict verdict in (sym (go (checks c) (room_check c most_text ∷ []) (ap is_refused (page_tables c e))) ∙ e)

pub refusal_short : (page : PageKind) (r : Refusal) → length (refusal_line r) ≤ page_room page
refusal_short Text r = omega (arith, refusal_few r)
refusal_short Needs r = omega (arith, refusal_few r)

text_page_few : (c : Tables) (xs : List ℕ) → length xs ≤ 4096 → (v : Verdict) → page_verdict Text c ≡ v → length (printed_of Text c xs v) ≤ most_printed
unfolding printed_of
text_page_few c xs h (Ok tt) e = omega (arith, length-append (chart_text c) (scan_lines 1 (trace c (start_state c) xs)), text_few c e, scan_lines_few 1 (trace c (start_state c) xs), trace_long c (start_state c) xs)
text_page_few c xs h (Err r) e = refusal_short Text r

-- whatever the tables, with no more scans than a file may have
pub printed_few : (page : PageKind) (c : Tables) (xs : List ℕ) → length xs ≤ 4096 → length (printed_of page c xs (page_verdict page c)) ≤ page_room page
printed_few Text c xs h = text_page_few c xs h (page_verdict Text c) refl
printed_few Needs c xs h = unfold printed_of page_verdict in (needs_page_few c)

-- whatever was answered and stored
room_few : (page : PageKind) → page_room page ≤ page_most
room_few Text = omega arith
room_few Needs = omega arith

pub refused_few : (r : Refusal) (l : List ℕ) (p : Printed) (m : List ℕ) → PrintedTo (Err r) (refusal_line r) l p m → p.length ≤ page_most
refused_few r l p m w = omega (arith, w.written.next, refusal_few r)

pub rows_few : (page : PageKind) (a : Answers) (stored : Stored) (l : List ℕ) (p : Printed) (m : List ℕ) → RowsPrinted page a stored l p m → p.length ≤ page_most
rows_few page a stored l p m w =
    omega (arith, w.written.next, printed_few page (held_tables a stored) (held_scans a stored) (omega (arith, length-take (min (rows_of a.scans) 4096) stored.scans.now)), room_few page)
