-- What the call that writes a chart's text, reads it back and runs what it read answers and leaves, for any tables.
use Rattle.meaning.specs.Refusals.{Verdict}
use Rattle.std.specs.Prelude.{◌≡◌, List, [], ◌∷◌, ◌++◌, map, ℕ, min, length, take, Result, Ok, Err}
use Rattle.std.proofs.Common.{sym, ◌∙◌}
use Rattle.meaning.specs.Tables.{Tables}
use Rattle.meaning.specs.Check.{Check, verdict_of, checks}
use Rattle.meaning.specs.Calls.{scans_check, overlaid}
use Rattle.meaning.specs.Machine.{Seen}
use Rattle.meaning.specs.History.{history_reading}
use Rattle.meaning.specs.declared.Refusal.{Refusal}
use Rattle.meaning.specs.declared.Refusal.TheVariants as R
use Rattle.format.specs.Printed.{chart_text, room_check}
use Rattle.format.specs.Bytes.{Translates}
use Rattle.chart_lent.specs.Slice.{left}
use Rattle.roundtrip_run.specs.AsRead.{chart_words, AsRead}
use Rattle.roundtrip_call.specs.declared.WrittenRun.{WrittenRun}

-- "then 14, 15, 12": the checks after those of the tables, for the input words xs, the slices l of the text, ws of the words, ls of the leaves and os of the outputs. A text never has more words than bytes, so that its length is room enough for both, and the shorter slice decides.
abbrev pub later_checks : Tables → List ℕ → List ℕ → List ℕ → List ℕ → List ℕ → List Check
later_checks c xs l ws ls os = scans_check (length xs) (length ls) ∷ scans_check (length xs) (length os) ∷ room_check c (min (length l) (length ws)) ∷ []

abbrev pub written_verdict : Tables → List ℕ → List ℕ → List ℕ → List ℕ → List ℕ → Verdict
written_verdict c xs l ws ls os = verdict_of (checks c ++ later_checks c xs l ws ls os)

-- what the call answers: the lengths of the text and of its words, or why there are none
abbrev pub WrittenAnswer : Type 0
WrittenAnswer = Result WrittenRun Refusal

abbrev pub ran : ℕ → ℕ → WrittenAnswer
ran n k = Ok (record { text = n; words = k })

-- the answer by a verdict
unfoldable pub outcome : Tables → Verdict → WrittenAnswer
outcome c (Ok tt) = ran (length (chart_text c)) (length (chart_words c))
outcome c (Err r) = Err r

-- by a verdict: what is answered, and what is left in the slices
pub record RanBy (v : Verdict) (c : Tables) (xs l ws ls os : List ℕ) (r : WrittenAnswer) (l' ws' ls' os' : List ℕ) : Type 0 where
  pub answers : r ≡ outcome c v
  pub written : l' ≡ left v (overlaid (chart_text c) l) l
  pub read : ws' ≡ left v (overlaid (chart_words c) ws) ws
  -- leaf and outputs after each scan are what the inputs and the list of earlier leaves call for
  pub leaves : ls' ≡ left v (map (λ (e : Seen). e.leaf) (history_reading c xs)) ls
  pub outputs : os' ≡ left v (map (λ (e : Seen). e.outputs) (history_reading c xs)) os
  -- demands 2 and 3 hold of the bytes
  pub translates : v ≡ (Ok tt) → Translates c (take (length (chart_text c)) l')

abbrev pub WrittenRan : Tables → List ℕ → List ℕ → List ℕ → List ℕ → List ℕ → WrittenAnswer → List ℕ → List ℕ → List ℕ → List ℕ → Type 0
WrittenRan c xs l ws ls os = RanBy (written_verdict c xs l ws ls os) c xs l ws ls os

-- no second answer
pub one_written_run : (c : Tables) (xs l ws ls os : List ℕ) (r s : WrittenAnswer) (l' ws' ls' os' l'' ws'' ls'' os'' : List ℕ)
    → WrittenRan c xs l ws ls os r l' ws' ls' os' → WrittenRan c xs l ws ls os s l'' ws'' ls'' os'' → (r ≡ s) × (l' ≡ l'') × (ws' ≡ ws'') × (ls' ≡ ls'') × (os' ≡ os'')
one_written_run c xs l ws ls os r s l' ws' ls' os' l'' ws'' ls'' os'' p q =
    (p.answers ∙ sym q.answers, p.written ∙ sym q.written, p.read ∙ sym q.read, p.leaves ∙ sym q.leaves, p.outputs ∙ sym q.outputs)

-- ---- the parts

-- the words of a written text, over ws, and their run
pub record ReadAndRun (c : Tables) (xs ws : List ℕ) (r : WrittenAnswer) (ws' ls' os' : List ℕ) : Type 0 where
  pub answers : r ≡ ran (length (chart_text c)) (length (chart_words c))
  pub read : ws' ≡ overlaid (chart_words c) ws
  pub seen : AsRead c xs ls' os'

-- SCANS, where the tables are not refused
abbrev pub no_scans : Verdict → WrittenAnswer
no_scans (Ok tt) = Err R.Scans
no_scans (Err r) = Err r
