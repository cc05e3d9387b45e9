-- What one scan of a chart over lent state answers and leaves, for any tables.
use Rattle.meaning.specs.Refusals.{Verdict}
use Rattle.std.specs.Prelude.{◌≡◌, List, [], ◌∷◌, ◌++◌, ℕ, Result, Ok, Err}
use Rattle.std.proofs.Common.{sym, ◌∙◌}
use Rattle.meaning.specs.Tables.{Tables}
use Rattle.meaning.specs.Check.{Check, verdict_of, checks}
use Rattle.meaning.specs.Calls.{state_check}
use Rattle.meaning.specs.Machine.{Seen, state_after_step, seen_in}
use Rattle.meaning.specs.Lent.{state_of, lent_of}
use Rattle.chart_lent.specs.Slice.{left}
use Rattle.meaning.specs.declared.Refusal.{Refusal}
use Rattle.chart_calls.specs.declared.StepSeen.{StepSeen as Told}

-- "Checks 1 to 11 come first wherever tables or a scan step are given, .. then 14": one scan has no slices of results, so no SCANS
unfoldable pub chart_step_checks : Tables → List ℕ → List Check
chart_step_checks c l = checks c ++ (state_check c l ∷ [])

abbrev pub step_verdict : Tables → List ℕ → Verdict
step_verdict c l = verdict_of (chart_step_checks c l)

-- what one scan answers: what is seen after it, or why there is none
abbrev pub Stepped : Type 0
Stepped = Result Told Refusal

-- a leaf and an output word, as they are told
abbrev pub step_told : ℕ → ℕ → Told
step_told a o = record { leaf = a; outputs = o }

-- the answer: what is seen after the scan, or the refusal
unfoldable pub step_answer : Seen → Verdict → Stepped
step_answer e (Ok tt) = Ok (step_told e.leaf e.outputs)
step_answer e (Err r) = Err r

-- one scan on the input word x, from the lent state l to l'
pub record ChartStepped (c : Tables) (x : ℕ) (l : List ℕ) (r : Stepped) (l' : List ℕ) : Type 0 where
  pub answers : r ≡ step_answer (seen_in c (state_after_step c x (state_of c l))) (step_verdict c l)
  pub state : l' ≡ left (step_verdict c l) (lent_of c (state_after_step c x (state_of c l))) l

-- no second answer
pub one_step : (c : Tables) (x : ℕ) (l : List ℕ) (r s : Stepped) (l' l'' : List ℕ) → ChartStepped c x l r l' → ChartStepped c x l s l'' → (r ≡ s) × (l' ≡ l'')
one_step c x l r s l' l'' p q = (p.answers ∙ sym q.answers, p.state ∙ sym q.state)
