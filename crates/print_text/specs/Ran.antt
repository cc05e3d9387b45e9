-- The run of the written text, over slices of 65,536 bytes and as many scans as there are input words: its refusals are those after FIELD, and it leaves what is printed.
use Rattle.meaning.specs.Refusals.{Verdict}
use Rattle.std.proofs.Math.Path.{◌≡◌, sym}
use Rattle.std.specs.Prelude.{refl, ℕ, ◌≤◌, min, false, length, take, drop, Ok, Err, Result}
use Rattle.std.proofs.Common.{ap, ◌∙◌, arith, length-append}
use Rattle.std.proofs.Math.Logic.{inl, inr}
use mathlib.Core.List.{List, [], ◌∷◌, ◌++◌, map}
use Rattle.std.proofs.lemmas.List.{length-map}
use Rattle.std.proofs.Math.Seq.{take-append_seam, drop-append_seam}
use borrow.Author.Tests.{eq-eqb}
use Rattle.meaning.specs.Rows.{least}
use Rattle.meaning.proofs.Laws.Rows.{which}
use Rattle.meaning.specs.Tables.{Tables}
use Rattle.meaning.specs.Check.{Check, checks, first_failing, verdict_of, verdict}
use Rattle.meaning.proofs.Laws.Verdict.{accepted_exactly}
use Rattle.meaning.specs.Calls.{scans_check, overlaid}
use Rattle.meaning.specs.History.{history_reading}
use Rattle.meaning.proofs.Laws.History.{run_is_reading}
use Rattle.meaning.specs.Machine.{Seen, start_state, trace}
use Rattle.meaning.specs.declared.Refusal.{Refusal}
use Rattle.format.specs.Printed.{most_text, chart_text, room_check, scan_lines}
use Rattle.check_tables.specs.Verdicts.{is_refused, stop, go}
use Rattle.chart_lent.specs.Slice.{left}
use Rattle.print_lines.specs.Results.{scan_lines_from, lines_are}
use Rattle.roundtrip_call.specs.declared.WrittenRun.{WrittenRun}
use Rattle.roundtrip_call.specs.WrittenRan.{later_checks, written_verdict, outcome, WrittenRan}
use Rattle.print_lines.specs.declared.Printed.{Printed}
use Rattle.print_text.specs.declared.PageKind.TheVariants.{Text}
use Rattle.print_text.specs.Print.{page_verdict, printed_of, TextPrinted, TablesPrinted}

-- the run has the text for an answer, or the refusal that comes after FIELD
pub record PrintedRun (c : Tables) (xs : List ℕ) (n : ℕ) (l ls os : List ℕ) : Type 0 where
  pub passes : page_verdict Text c ≡ (Ok tt)
  pub long : n ≡ length (chart_text c)
  pub text : l ≡ chart_text c ++ drop (length (chart_text c)) l
  pub leaves : ls ≡ map (λ (e : Seen). e.leaf) (trace c (start_state c) xs)
  pub outputs : os ≡ map (λ (e : Seen). e.outputs) (trace c (start_state c) xs)

-- tables that nothing refuses after FIELD are accepted
pub page_tables : (c : Tables) → page_verdict Text c ≡ (Ok tt) → verdict c ≡ (Ok tt)
unfolding page_verdict verdict
page_tables c e = by (verdict_of (checks c)) refl
  where
    by : (w : Verdict) → verdict_of (checks c) ≡ w → verdict_of (checks c) ≡ (Ok tt)
    by (Ok tt) f = f
    by (Err q) f = sym (stop (checks c) (room_check c most_text ∷ []) (ap is_refused f)) ∙ e

module _ (c : Tables) (xs l ws ls os : List ℕ) (full : length l ≡ 65536) (wide : length ws ≡ 65536) (same : length ls ≡ length xs) (alike : length os ≡ length xs) where
  abbrev scans_checks : List Check
  scans_checks = scans_check (length xs) (length ls) ∷ scans_check (length xs) (length os) ∷ []

  -- slices of the right lengths leave ROOM alone
  scans_pass : is_refused (verdict_of scans_checks) ≡ false
  unfolding scans_check verdict_of first_failing least
  scans_pass = rw (eq-eqb (length ls) (length xs) same, eq-eqb (length os) (length xs) alike)

  later_is : verdict_of (later_checks c xs l ws ls os) ≡ verdict_of (room_check c most_text ∷ [])
  later_is =
      let e : min (length l) (length ws) ≡ most_text = omega arith in
      go scans_checks (room_check c (min (length l) (length ws)) ∷ []) scans_pass ∙ ap (λ n. verdict_of (room_check c n ∷ [])) e

  same_verdict : written_verdict c xs l ws ls os ≡ page_verdict Text c
  unfolding page_verdict
  same_verdict = elim (which (is_refused (verdict_of (checks c)))) [
    | inl e ↦ stop (checks c) (later_checks c xs l ws ls os) e ∙ sym (stop (checks c) (room_check c most_text ∷ []) e)
    | inr e ↦ go (checks c) (later_checks c xs l ws ls os) e ∙ (later_is ∙ sym (go (checks c) (room_check c most_text ∷ []) e))
  ]

  refused_by : (w : Verdict) (q : Refusal) → outcome c w ≡ Err q → w ≡ Err q
  unfolding outcome
  refused_by (Ok tt) q e = cc
  refused_by (Err r) q e = cc

  ran_by : (w : Verdict) (r : WrittenRun) → outcome c w ≡ Ok r → (w ≡ (Ok tt)) × (r.text ≡ length (chart_text c))
  unfolding outcome
  ran_by (Ok tt) r e = (refl, cc)
  ran_by (Err q) r e = cc

  pub ran_refused : (r : Result WrittenRun Refusal) (l' ws' ls' os' : List ℕ) (q : Refusal) → WrittenRan c xs l ws ls os r l' ws' ls' os' → r ≡ Err q → page_verdict Text c ≡ Err q
  ran_refused r l' ws' ls' os' q w e = sym same_verdict ∙ refused_by (written_verdict c xs l ws ls os) q (sym w.answers ∙ e)

  overlaid_text : (l' : List ℕ) → l' ≡ overlaid (chart_text c) l → l' ≡ chart_text c ++ drop (length (chart_text c)) l'
  unfolding overlaid
  overlaid_text l' e = rw e (ap (λ (d : List ℕ). chart_text c ++ d) (sym (drop-append_seam (chart_text c) (drop (length (chart_text c)) l))))

  -- an accepted run's results are its own
  left_new : (v : Verdict) (new old m : List ℕ) → v ≡ (Ok tt) → m ≡ left v new old → m ≡ new
  unfolding left
  left_new v new old m f e = rw f at e

  pub ran_wrote : (a : Result WrittenRun Refusal) (l' ws' ls' os' : List ℕ) (r : WrittenRun) → WrittenRan c xs l ws ls os a l' ws' ls' os' → a ≡ Ok r → PrintedRun c xs r.text l' ls' os'
  ran_wrote a l' ws' ls' os' r w e =
      let v : Verdict = written_verdict c xs l ws ls os in
      let b = ran_by v r (sym w.answers ∙ e) in
      let f : v ≡ (Ok tt) = b.0 in
      let t : trace c (start_state c) xs ≡ history_reading c xs = run_is_reading c ((accepted_exactly c).0 (page_tables c (sym same_verdict ∙ f))) xs in
      record {
        passes = sym same_verdict ∙ f;
        long = b.1;
        text = overlaid_text l' (left_new v _ l l' f w.written);
        leaves = left_new v _ ls ls' f w.leaves ∙ ap (map (λ (e : Seen). e.leaf)) (sym t);
        outputs = left_new v _ os os' f w.outputs ∙ ap (map (λ (e : Seen). e.outputs)) (sym t);
      }

-- ---- what is printed then

module _ (c : Tables) (xs : List ℕ) (n : ℕ) (l ls os : List ℕ) (ran : PrintedRun c xs n l ls os) where
  pub text_fits : n ≤ length l
  text_fits = omega (arith, ran.long, ap length ran.text, length-append (chart_text c) (drop (length (chart_text c)) l))

  pub same_lengths : length os ≡ length ls
  same_lengths = ap length ran.outputs ∙ length-map (trace c (start_state c) xs) (λ (e : Seen). e.outputs) ∙ sym (ap length ran.leaves ∙ length-map (trace c (start_state c) xs) (λ (e : Seen). e.leaf))

  bytes_are : take n l ++ scan_lines_from 1 ls os ≡ printed_of Text c xs (Ok tt)
  unfolding printed_of
  bytes_are = rw (ran.leaves, ran.outputs, lines_are 1 (trace c (start_state c) xs), ran.long)
      (ap (λ (t : List ℕ). t ++ scan_lines 1 (trace c (start_state c) xs)) (ap (take (length (chart_text c))) ran.text ∙ take-append_seam (chart_text c) (drop (length (chart_text c)) l)))

  pub text_printed : (o m : List ℕ) (p : Printed) → TextPrinted n l ls os o p m → TablesPrinted Text c xs o p m
  text_printed o m p t = rw ran.passes (record { why = t.why; written = rw bytes_are at t.written })
