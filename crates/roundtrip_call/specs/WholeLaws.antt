-- The answers of the call that writes, reads and runs.
use Rattle.meaning.specs.Refusals.{Answer}
use Rattle.meaning.specs.Refusals.{Verdict}
use Rattle.std.proofs.Math.Path.{◌≡◌, ap}
use Rattle.std.specs.Prelude.{refl, ◌≢◌, ◌⊎◌, ℕ, ◌≤◌, min, Bool, false, List, [], ◌∷◌, ◌++◌, length, take, drop, leb, eqb, Ok, Err}
use Rattle.std.proofs.Common.{sym, ap₂, ◌∙◌, inl, inr, arith, append_assoc, length-take, take-append-drop, leb-true, eq-eqb, ne_eqb}
use Rattle.std.proofs.Math.Bool.{true, cond}
use Rattle.std.proofs.Math.Seq.{take_at}
use Rattle.std.proofs.lemmas.List.{drop-append-le}
use Rattle.meaning.specs.Tables.{Tables}
use Rattle.meaning.specs.Rules.{Rules}
use Rattle.meaning.specs.Check.{verdict_of, checks, verdict}
use Rattle.meaning.proofs.Laws.Verdict.{accepted_exactly}
use Rattle.meaning.specs.Calls.{scans_check, overlaid}
use Rattle.meaning.specs.Written.{program}
use Rattle.meaning.proofs.Laws.Programs.{program_fits_lem}
use Rattle.meaning.specs.declared.Refusal.{Refusal}
use Rattle.meaning.specs.declared.Refusal.TheVariants as R
use Rattle.format.specs.Words.{words}
use Rattle.format.specs.Places.{room}
use Rattle.format.specs.Printed.{chart_text, room_check}
use Rattle.format.proofs.Laws.Bytes.{chart_translated, words_short}
use Rattle.chart_lent.specs.Slice.{left}
use Rattle.chart_lent.specs.RunLaws.{one_row}
use Rattle.check_tables.specs.Verdicts.{is_refused, stop, go}
use Rattle.read_text.specs.Reads.{TextRead, reads, cramped, refuses}
use Rattle.read_text.specs.WaysBack.{written_read}
use Rattle.write_text.specs.Texts.{chart_answer, chart_left, ChartWritten}
use Rattle.roundtrip_run.specs.AsRead.{chart_words, AsRead}
use Rattle.roundtrip_call.specs.WrittenRan.{later_checks, written_verdict, WrittenAnswer, ran, outcome, WrittenRan, ReadAndRun, no_scans}

-- ---- reading back

-- the words that were read are in the slice
pub read_fits : {l entry exit : List ℕ} {r : Answer} (n : ℕ) → TextRead l entry r exit → r ≡ Ok n → n ≤ length entry
read_fits n (reads p f d h) e = let k : length (words p) ≡ n = cc in omega arith
read_fits n (cramped p f d h) e = absurd (let z : ◌≡◌ {A = ℕ} 0 1 = cc in omega arith)
read_fits n (refuses k t) e = absurd (let z : ◌≡◌ {A = ℕ} 0 1 = cc in omega arith)

module _ (c : Tables) (rules : Rules c) (l ws ws' : List ℕ) (r : Answer) (e : chart_text c ≡ l) (h : length (chart_text c) ≤ length ws) (t : TextRead l ws r ws') where
  -- a written text is read as the words of its program
  words_read : (r ≡ Ok (length (chart_words c))) × (ws' ≡ overlaid (chart_words c) ws)
  words_read =
      let z : TextRead (chart_text c) ws r ws' = rw e t in
      unfold chart_text in (written_read (program c) (program_fits_lem c rules) (omega (arith, words_short (program c), h)) z)

  -- so it is not refused
  pub read_refused : (q : Refusal) → r ≡ Err q → ⊥
  read_refused q f = let g = words_read.0 in let z : ◌≡◌ {A = ℕ} 0 1 = cc in omega arith

  -- and they stand in front
  words_count : (n : ℕ) → r ≡ Ok n → length (chart_words c) ≡ n
  words_count n f = let g = words_read.0 in cc

  pub words_front : (n : ℕ) → r ≡ Ok n → chart_words c ≡ take n ws'
  unfolding overlaid
  words_front n f = rw words_read.1 (sym (take_at (chart_words c) (drop (length (chart_words c)) ws) n (words_count n f)))

  pub read_done : (n : ℕ) → r ≡ Ok n → (xs ls os : List ℕ) → AsRead c xs ls os → ReadAndRun c xs ws (ran (length l) n) ws' ls os
  read_done n f xs ls os a = record { answers = ap₂ ran (ap length (sym e)) (sym (words_count n f)); read = words_read.1; seen = a }

-- ---- the answers

-- a text over the front of a part is the text over the front of the whole
part_overlaid : (w l : List ℕ) (k : ℕ) → length w ≤ k → k ≤ length l → overlaid w (take k l) ++ drop k l ≡ overlaid w l
unfolding overlaid
part_overlaid w l k h g =
    append_assoc w (drop (length w) (take k l)) (drop k l)
    ∙ ap (λ z. w ++ z) (sym (drop-append-le (length w) (take k l) (drop k l) (omega (arith, length-take k l))) ∙ ap (drop (length w)) (take-append-drop k l))

module _ (c : Tables) (xs l ws ls os : List ℕ) where
  abbrev fitting : Bool
  fitting = leb (length (chart_text c)) (min (length l) (length ws))

  later : verdict_of (later_checks c xs l ws ls os)
      ≡ cond (eqb (length ls) (length xs)) (cond (eqb (length os) (length xs)) (cond fitting (Ok tt) (Err (R.Room (room (length (chart_text c)))))) (Err R.Scans)) (Err R.Scans)
  unfolding scans_check room_check verdict_of
  later = one_row (λ p. R.Scans) (eqb (length ls) (length xs)) (scans_check (length xs) (length os) ∷ room_check c (min (length l) (length ws)) ∷ [])
      ∙ ap (λ v. cond (eqb (length ls) (length xs)) v (Err R.Scans)) (one_row (λ p. R.Scans) (eqb (length os) (length xs)) (room_check c (min (length l) (length ws)) ∷ [])
      ∙ ap (λ v. cond (eqb (length os) (length xs)) v (Err R.Scans)) (one_row (λ p. R.Room (room (length (chart_text c)))) fitting []))

  refused : (q : Refusal) → written_verdict c xs l ws ls os ≡ Err q → WrittenRan c xs l ws ls os (Err q) l ws ls os
  unfolding outcome left
  refused q e = record {
    answers = rw e;
    written = rw e;
    read = rw e;
    leaves = rw e;
    outputs = rw e;
    translates = λ z. absurd (let y : ◌≡◌ {A = ℕ} 0 1 = cc in omega arith);
  }

  -- accepted tables: the later checks decide
  then : verdict c ≡ (Ok tt) → (v : Verdict) → verdict_of (later_checks c xs l ws ls os) ≡ v → written_verdict c xs l ws ls os ≡ v
  unfolding verdict
  then e v f = go (checks c) _ (ap is_refused e) ∙ f

  never : (q : Refusal) → verdict c ≡ Err q → written_verdict c xs l ws ls os ≡ Err q
  unfolding verdict
  never q e = stop (checks c) _ (ap is_refused e) ∙ e

  scans_refused : (length ls ≢ length xs) ⊎ (length os ≢ length xs) → verdict_of (later_checks c xs l ws ls os) ≡ Err R.Scans
  scans_refused (inl n) = later ∙ rw (ne_eqb (length ls) (length xs) n)
  scans_refused (inr n) = later ∙ rw (ne_eqb (length os) (length xs) n) (same (eqb (length ls) (length xs)))
    where
      same : (b : Bool) → cond {A = Verdict} b (Err R.Scans) (Err R.Scans) ≡ Err R.Scans
      same true = refl
      same false = refl

  pub scans_differ : (length ls ≢ length xs) ⊎ (length os ≢ length xs) → (r : WrittenAnswer) → r ≡ no_scans (verdict c) → WrittenRan c xs l ws ls os r l ws ls os
  scans_differ d r e = go (verdict c) refl e
    where
      go : (v : Verdict) → verdict c ≡ v → r ≡ no_scans v → WrittenRan c xs l ws ls os r l ws ls os
      go (Ok tt) f g = rw g (refused R.Scans (then f (Err R.Scans) (scans_refused d)))
      go (Err q) f g = rw g (refused q (never q f))

  module _ (p : length ls ≡ length xs) (q : length os ≡ length xs) (k : ℕ) (short : k ≡ min (length l) (length ws)) (m : List ℕ) (a : Answer) (w : ChartWritten c (take k l) a m) where
    by_room : (b : Bool) → fitting ≡ b → verdict_of (later_checks c xs l ws ls os) ≡ cond b (Ok tt) (Err (R.Room (room (length (chart_text c)))))
    by_room b e = later ∙ rw (eq-eqb (length ls) (length xs) p, eq-eqb (length os) (length xs) q, e)

    part_long : length (take k l) ≡ min (length l) (length ws)
    part_long = omega (arith, length-take k l)

    -- nothing was written
    pub write_refused : (z : Refusal) → a ≡ Err z → WrittenRan c xs l ws ls os (Err z) (m ++ drop k l) ws ls os
    write_refused z e = go (verdict c) refl (sym w.answer ∙ e) w.out
      where
        kept : m ≡ take k l → m ++ drop k l ≡ l
        kept f = rw f (take-append-drop k l)

        by : (b : Bool) → fitting ≡ b → verdict c ≡ (Ok tt) → cond b (Ok (length (chart_text c))) (Err (R.Room (room (length (chart_text c))))) ≡ Err z → m ≡ cond b (overlaid (chart_text c) (take k l)) (take k l)
            → WrittenRan c xs l ws ls os (Err z) (m ++ drop k l) ws ls os
        by true f v g o = absurd (let y : ◌≡◌ {A = ℕ} 0 1 = cc in omega arith)
        by false f v g o = let y : R.Room (room (length (chart_text c))) ≡ z = cc in rw (kept o) (refused z (then v (Err z) (by_room false f ∙ ap Err y)))

        go : (v : Verdict) → verdict c ≡ v → chart_answer c (take k l) v ≡ Err z → m ≡ chart_left c (take k l) v → WrittenRan c xs l ws ls os (Err z) (m ++ drop k l) ws ls os
        go (Ok tt) f g o = by fitting refl f (rw part_long at g) (rw part_long at o)
        go (Err y) f g o = let t : y ≡ z = cc in rw (kept o) (refused z (never z (f ∙ ap Err t)))

    -- or the text was, over the front of the whole
    pub record Wrote (n : ℕ) : Type 0 where
      pub accepted : verdict c ≡ (Ok tt)
      pub fits : fitting ≡ true
      pub count : length (chart_text c) ≡ n
      pub list : m ++ drop k l ≡ overlaid (chart_text c) l

    pub wrote : (n : ℕ) → a ≡ Ok n → Wrote n
    wrote n e = go (verdict c) refl (sym w.answer ∙ e) w.out
      where
        by : (b : Bool) → fitting ≡ b → verdict c ≡ (Ok tt) → cond b (Ok (length (chart_text c))) (Err (R.Room (room (length (chart_text c))))) ≡ Ok n → m ≡ cond b (overlaid (chart_text c) (take k l)) (take k l) → Wrote n
        by true f v g o = record {
          accepted = v;
          fits = f;
          count = cc;
          list = rw o (part_overlaid (chart_text c) l k (let y = leb-true (length (chart_text c)) (min (length l) (length ws)) f in omega arith) (omega arith));
        }
        by false f v g o = absurd (let y : ◌≡◌ {A = ℕ} 0 1 = cc in omega arith)

        go : (v : Verdict) → verdict c ≡ v → chart_answer c (take k l) v ≡ Ok n → m ≡ chart_left c (take k l) v → Wrote n
        go (Ok tt) f g o = by fitting refl f (rw part_long at g) (rw part_long at o)
        go (Err y) f g o = absurd (let t : ◌≡◌ {A = ℕ} 0 1 = cc in omega arith)

    module _ (n : ℕ) (e : a ≡ Ok n) where
      wrote_fits : length (chart_text c) ≤ min (length l) (length ws)
      wrote_fits = leb-true (length (chart_text c)) (min (length l) (length ws)) (wrote n e).fits

      pub wrote_short : n ≤ length l
      wrote_short = omega (arith, (wrote n e).count, wrote_fits)

      pub wrote_room : length (chart_text c) ≤ length ws
      wrote_room = omega (arith, wrote_fits)

      pub wrote_rules : Rules c
      wrote_rules = (accepted_exactly c).0 (wrote n e).accepted

      pub wrote_front : chart_text c ≡ take n (m ++ drop k l)
      unfolding overlaid
      wrote_front = let t = wrote n e in rw t.list (sym (take_at (chart_text c) (drop (length (chart_text c)) l) n t.count))

      pub written_done : (r : WrittenAnswer) (ws' ls' os' : List ℕ) → ReadAndRun c xs ws r ws' ls' os' → WrittenRan c xs l ws ls os r (m ++ drop k l) ws' ls' os'
      unfolding outcome left overlaid
      written_done r ws' ls' os' d =
          let t = wrote n e in
          let v : written_verdict c xs l ws ls os ≡ (Ok tt) = then t.accepted (Ok tt) (by_room true t.fits) in
          record {
            answers = rw v d.answers;
            written = rw v t.list;
            read = rw v d.read;
            leaves = rw v d.seen.leaves;
            outputs = rw v d.seen.outputs;
            translates = λ z. rw (t.list, take_at (chart_text c) (drop (length (chart_text c)) l) (length (chart_text c)) refl) (chart_translated c wrote_rules);
          }
