-- What a run of a chart over lent state answers and leaves, for any tables.
use Rattle.meaning.specs.Refusals.{Answer}
use Rattle.meaning.specs.Refusals.{Verdict}
use Rattle.std.specs.Prelude.{◌≡◌, refl, List, [], ◌∷◌, ◌++◌, map, ℕ, length, replicate, eqb, Ok, Err}
use Rattle.std.proofs.Common.{sym, ap, ◌∙◌, inl, inr}
use Rattle.meaning.proofs.Laws.Rows.{which}
use Rattle.meaning.specs.Tables.{Tables}
use Rattle.meaning.specs.Check.{Check, first_failing, verdict_of, checks, verdict}
use Rattle.check_tables.specs.Verdicts.{is_refused, stop, go}
use Rattle.meaning.specs.Calls.{chart_run_checks}
use Rattle.meaning.specs.Machine.{Seen, trace, state_after_scans}
use Rattle.meaning.specs.Lent.{lent_length, state_of, lent_of}
use Rattle.meaning.proofs.Laws.Lent.{zero_start}
use Rattle.meaning.specs.History.{history_reading}
use Rattle.meaning.proofs.Laws.History.{run_is_reading}
use Rattle.meaning.proofs.Laws.Verdict.{accepted_exactly}
use Rattle.meaning.specs.declared.Refusal.{Refusal}
use Rattle.chart_lent.specs.Slice.{later_verdict, answer, left, LentRun}

-- the refusals in their order: the tables' 1 to 11, STATE, SCANS
abbrev pub run_verdict : Tables → List ℕ → List ℕ → List ℕ → List ℕ → Verdict
run_verdict c xs l ls os = verdict_of (chart_run_checks c l xs ls os)

-- a run over the input words xs, from the lent state l and the result slices ls and os to l', ls' and os'
pub record ChartRan (c : Tables) (xs l ls os : List ℕ) (r : Answer) (l' ls' os' : List ℕ) : Type 0 where
  pub answers : r ≡ answer (length xs) (run_verdict c xs l ls os)
  pub state : l' ≡ left (run_verdict c xs l ls os) (lent_of c (state_after_scans c (state_of c l) xs)) l
  pub leaves : ls' ≡ left (run_verdict c xs l ls os) (map (λ (e : Seen). e.leaf) (trace c (state_of c l) xs)) ls
  pub outputs : os' ≡ left (run_verdict c xs l ls os) (map (λ (e : Seen). e.outputs) (trace c (state_of c l) xs)) os
  -- demand 3: from cleared memory they are what the inputs and the list of earlier leaves call for
  pub reads : run_verdict c xs l ls os ≡ (Ok tt) → l ≡ replicate (lent_length c) 0
      → (ls' ≡ map (λ (e : Seen). e.leaf) (history_reading c xs)) × (os' ≡ map (λ (e : Seen). e.outputs) (history_reading c xs))

-- no second answer
pub one_run : (c : Tables) (xs l ls os : List ℕ) (r s : Answer) (l' ls' os' l'' ls'' os'' : List ℕ)
    → ChartRan c xs l ls os r l' ls' os' → ChartRan c xs l ls os s l'' ls'' os'' → (r ≡ s) × (l' ≡ l'') × (ls' ≡ ls'') × (os' ≡ os'')
one_run c xs l ls os r s l' ls' os' l'' ls'' os'' p q =
    (p.answers ∙ sym q.answers, p.state ∙ sym q.state, p.leaves ∙ sym q.leaves, p.outputs ∙ sym q.outputs)

-- where all checks pass, those at the front do
pub front_accepted : (ks js : List Check) → verdict_of (ks ++ js) ≡ (Ok tt) → verdict_of ks ≡ (Ok tt)
unfolding verdict_of
front_accepted [] js e = refl
front_accepted (k ∷ ks) js e = elim (which (eqb (first_failing k) k.rows)) [
  | inl f ↦ rw (verdict_of, f) (front_accepted ks js (rw (verdict_of, f) at e))
  | inr f ↦ (let z : Err (k.refusal (first_failing k)) ≡ (Ok tt) = rw (verdict_of, f) at e in cc)
]

-- the equations are all that there is to prove: the machine's run from the start is the history reading
pub run_by : (c : Tables) (xs l ls os : List ℕ) (r : Answer) (l' ls' os' : List ℕ)
    → r ≡ answer (length xs) (run_verdict c xs l ls os)
    → l' ≡ left (run_verdict c xs l ls os) (lent_of c (state_after_scans c (state_of c l) xs)) l
    → ls' ≡ left (run_verdict c xs l ls os) (map (λ (e : Seen). e.leaf) (trace c (state_of c l) xs)) ls
    → os' ≡ left (run_verdict c xs l ls os) (map (λ (e : Seen). e.outputs) (trace c (state_of c l) xs)) os
    → ChartRan c xs l ls os r l' ls' os'
unfolding verdict chart_run_checks left
run_by c xs l ls os r l' ls' os' a b f g = record {
  answers = a;
  state = b;
  leaves = f;
  outputs = g;
  reads = λ z w.
      let R = (accepted_exactly c).0 (front_accepted (checks c) _ z) in
      let t : trace c (state_of c l) xs ≡ history_reading c xs = ap (λ s. trace c s xs) (ap (state_of c) w ∙ zero_start c R) ∙ run_is_reading c R xs in
      (rw (z, t) at f, rw (z, t) at g);
}

-- refused tables: nothing is run
pub refused_tables : (c : Tables) (xs l ls os : List ℕ) (r : Refusal) → verdict c ≡ Err r → ChartRan c xs l ls os (Err r) l ls os
unfolding verdict chart_run_checks answer left
refused_tables c xs l ls os r e = let v : run_verdict c xs l ls os ≡ Err r = stop (checks c) _ (ap is_refused e) ∙ e in
    run_by c xs l ls os (Err r) l ls os (rw v) (rw v) (rw v) (rw v)

-- accepted tables: the later checks decide
pub accepted_tables : (c : Tables) (xs l ls os : List ℕ) (r : Answer) (l' ls' os' : List ℕ) → verdict c ≡ (Ok tt) → LentRun c xs l ls os r l' ls' os' → ChartRan c xs l ls os r l' ls' os'
unfolding verdict chart_run_checks
accepted_tables c xs l ls os r l' ls' os' e p =
    let v : run_verdict c xs l ls os ≡ later_verdict c l xs ls os = go (checks c) _ (ap is_refused e) in
    run_by c xs l ls os r l' ls' os' (rw v p.answers) (rw v p.state) (rw v p.leaves) (rw v p.outputs)
