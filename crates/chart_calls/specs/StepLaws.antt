-- One scan and many: a scan is a run of one.
use Rattle.meaning.specs.Refusals.{Answer}
use Rattle.meaning.specs.Refusals.{Verdict}
use Rattle.std.specs.Prelude.{◌≡◌, refl, ℕ, get_or, eqb, Ok, Err}
use Rattle.std.proofs.Math.Path.{sym}
use Rattle.std.proofs.Common.{◌∙◌, inl, inr}
use mathlib.Core.List.{List, [], ◌∷◌, ◌++◌}
use Rattle.meaning.specs.Rows.{least}
use Rattle.meaning.proofs.Laws.Rows.{which}
use Rattle.meaning.specs.Tables.{Tables}
use Rattle.meaning.specs.Check.{Check, first_failing, verdict_of, checks}
use Rattle.meaning.specs.Calls.{state_check, scans_check, chart_run_checks}
use Rattle.meaning.specs.Machine.{Seen, trace, state_after_scans}
use Rattle.meaning.specs.declared.Refusal.{Refusal}
use Rattle.chart_lent.specs.Slice.{answer, left}
use Rattle.chart_calls.specs.Runs.{run_verdict, ChartRan}
use Rattle.chart_calls.specs.Steps.{chart_step_checks, step_verdict, step_told, step_answer, ChartStepped}

-- the answer tells the verdict
pub done_accepted : (v : Verdict) (n m : ℕ) → Ok n ≡ answer m v → v ≡ (Ok tt)
unfolding answer
done_accepted (Ok tt) n m e = refl
done_accepted (Err r) n m e = (let z : Ok n ≡ Err r = e in cc)

pub refused_refused : (v : Verdict) (m : ℕ) (r : Refusal) → Err r ≡ answer m v → v ≡ Err r
unfolding answer
refused_refused (Ok tt) m r e = (let z : Err r ≡ Ok m = e in cc)
refused_refused (Err s) m r e = (let z : Err r ≡ Err s = e in cc)

pub shown_accepted : (v : Verdict) (s : Seen) (a o : ℕ) → Ok (step_told a o) ≡ step_answer s v → v ≡ (Ok tt)
unfolding step_answer
shown_accepted (Ok tt) s a o e = refl
shown_accepted (Err r) s a o e = (let z : Ok (step_told a o) ≡ Err r = e in cc)

-- what decides after the same checks
same_after : (ks js is : List Check) → verdict_of js ≡ verdict_of is → verdict_of (ks ++ js) ≡ verdict_of (ks ++ is)
unfolding verdict_of
same_after [] js is e = e
same_after (k ∷ ks) js is e = elim (which (eqb (first_failing k) k.rows)) [
  | inl f ↦ rw (verdict_of, f) (same_after ks js is e)
  | inr f ↦ rw (verdict_of, f)
]

module _ (c : Tables) (x : ℕ) (l : List ℕ) (a b : ℕ) where
  -- one scan over results of one place is refused as one scan is
  pub same_verdict : run_verdict c (x ∷ []) l (a ∷ []) (b ∷ []) ≡ step_verdict c l
  unfolding chart_run_checks chart_step_checks verdict_of scans_check first_failing least
  same_verdict = same_after (checks c) _ _ (same_after (state_check c l ∷ []) (scans_check 1 1 ∷ scans_check 1 1 ∷ []) [] refl)

  -- a run of one scan that is done
  pub done_one : (r : Answer) (n : ℕ) (l' ls' os' : List ℕ) → r ≡ Ok n → ChartRan c (x ∷ []) l (a ∷ []) (b ∷ []) r l' ls' os' → ChartStepped c x l (Ok (step_told (get_or ls' 0 0) (get_or os' 0 0))) l'
  unfolding step_answer left trace state_after_scans
  done_one r n l' ls' os' e p =
      let v = done_accepted (run_verdict c (x ∷ []) l (a ∷ []) (b ∷ [])) n 1 (sym e ∙ p.answers) in
      let w : step_verdict c l ≡ (Ok tt) = sym same_verdict ∙ v in
      record { answers = rw (w, p.leaves, p.outputs, v); state = rw w (rw v at p.state) }

  -- and one that is refused
  pub refused_one : (r : Answer) (q : Refusal) (l' ls' os' : List ℕ) → r ≡ Err q → ChartRan c (x ∷ []) l (a ∷ []) (b ∷ []) r l' ls' os' → ChartStepped c x l (Err q) l'
  unfolding step_answer left
  refused_one r q l' ls' os' e p =
      let v = refused_refused (run_verdict c (x ∷ []) l (a ∷ []) (b ∷ [])) 1 q (sym e ∙ p.answers) in
      let w : step_verdict c l ≡ Err q = sym same_verdict ∙ v in
      record { answers = rw w; state = rw w (rw v at p.state) }
