-- Runs of a chart over lent state: one after the other, scan by scan, from the cleared state, and what they do not look at.
use Rattle.meaning.specs.Refusals.{Answer}
use Rattle.meaning.specs.Refusals.{Verdict}
use Rattle.std.specs.Prelude.{◌≡◌, refl, true, false, ℕ, zero, suc, ◌+◌, ◌≤◌, length, get_or, take, replicate, eqb, Ok, Err}
use Rattle.std.proofs.Common.{sym, ap, ap₂, ◌∙◌, inl, inr, arith, length-append}
use Rattle.std.proofs.Math.Bool.{not}
use Rattle.std.proofs.lemmas.Bool.{false≢true}
use mathlib.Core.List.{List, [], ◌∷◌, ◌++◌, map, map-append}
use borrow.Author.Tests.{eq-eqb, eqb-true}
use Rattle.meaning.specs.Hierarchy.{is_leaf}
use Rattle.meaning.proofs.Laws.Rows.{which, count_le}
use Rattle.meaning.specs.Tables.{Tables, state_count}
use Rattle.meaning.specs.Literals.{input_on}
use Rattle.meaning.specs.Rules.{Rules}
use Rattle.meaning.specs.Check.{checks, verdict}
use Rattle.check_tables.specs.Verdicts.{is_refused, go}
use Rattle.meaning.specs.Calls.{state_check, chart_run_checks}
use Rattle.meaning.proofs.Laws.Verdict.{accepted_exactly}
use Rattle.meaning.specs.Machine.{State, Seen, start_state, state_after_step, seen_in, trace, state_after_scans}
use Rattle.meaning.proofs.Laws.Machine.{trace_append, after_append, after_valid, bits_above}
use Rattle.meaning.specs.Lent.{super_states_below, lent_length, state_of, state_passes}
use Rattle.meaning.proofs.Laws.Lent.{lent_valid, valid_back, zero_passes, zero_start}
use Rattle.meaning.specs.History.{history_reading}
use Rattle.meaning.proofs.Laws.History.{run_is_reading}
use Rattle.meaning.specs.declared.Refusal.{Refusal}
use Rattle.meaning.specs.declared.Refusal.TheVariants as R
use Rattle.chart_lent.specs.Slice.{later_verdict, answer, left}
use Rattle.chart_lent.specs.RunLaws.{later}
use Rattle.chart_calls.specs.Runs.{run_verdict, ChartRan, front_accepted, run_by}
use Rattle.chart_calls.specs.declared.StepSeen.{StepSeen as Told}
use Rattle.chart_calls.specs.Steps.{chart_step_checks, step_verdict, Stepped, step_told, step_answer, ChartStepped}
use Rattle.chart_calls.specs.StepLaws.{done_accepted, shown_accepted, same_verdict}

not_accepted : (r : Refusal) → Err r ≡ Ok (tt {0}) → ⊥
not_accepted r e = let z : false ≡ true = cc in false≢true z

-- what a run that is done has passed
pub record Runnable (c : Tables) (xs l ls os : List ℕ) : Type 0 where
  pub tables : verdict c ≡ (Ok tt)
  pub state : state_passes c l ≡ true
  pub leaves : length ls ≡ length xs
  pub outputs : length os ≡ length xs

module _ (c : Tables) (xs l ls os : List ℕ) where
  runnable_later : later_verdict c l xs ls os ≡ (Ok tt) → (state_passes c l ≡ true) × (length ls ≡ length xs) × (length os ≡ length xs)
  runnable_later e = let tests = sym (later c xs l ls os) ∙ e in elim (which (state_passes c l)) [
    | inl f ↦ elim (which (eqb (length ls) (length xs))) [
      | inl g ↦ elim (which (eqb (length os) (length xs))) [
        | inl h ↦ (f, eqb-true (length ls) (length xs) g, eqb-true (length os) (length xs) h)
        | inr h ↦ (let z : Err R.Scans ≡ (Ok tt) = rw (f, g, h) at tests in absurd (not_accepted _ z))
      ]
      | inr g ↦ (let z : Err R.Scans ≡ (Ok tt) = rw (f, g) at tests in absurd (not_accepted _ z))
    ]
    | inr f ↦ (let z : Err R.State ≡ (Ok tt) = rw f at tests in absurd (not_accepted _ z))
  ]

  pub accepted_runnable : run_verdict c xs l ls os ≡ (Ok tt) → Runnable c xs l ls os
  unfolding verdict chart_run_checks
  accepted_runnable e =
      let front = front_accepted (checks c) _ e in
      let r = runnable_later (sym (go (checks c) _ (ap is_refused front)) ∙ e) in
      record { tables = front; state = r.0; leaves = r.1; outputs = r.2 }

  pub runnable_accepted : Runnable c xs l ls os → run_verdict c xs l ls os ≡ (Ok tt)
  unfolding verdict chart_run_checks
  runnable_accepted r = go (checks c) _ (ap is_refused r.tables) ∙ later c xs l ls os ∙ rw (r.state, eq-eqb (length ls) (length xs) r.leaves, eq-eqb (length os) (length xs) r.outputs)

-- the number of scans that a run says it did
done_scans : (c : Tables) (xs l ls os : List ℕ) (n : ℕ) (l' ls' os' : List ℕ) → ChartRan c xs l ls os (Ok n) l' ls' os' → n ≡ length xs
unfolding answer
done_scans c xs l ls os n l' ls' os' p =
    let z : Ok n ≡ Ok (length xs) = rw (done_accepted (run_verdict c xs l ls os) n (length xs) p.answers) at p.answers in cc

-- ---- one run after another

-- Two runs that are done, the second from the state that the first left, are one run: its inputs, leaves and output words are those of
-- the first and then those of the second.
pub run_run : (c : Tables) (xs ys l ls os ks ps : List ℕ) (n m : ℕ) (l' ls' os' l'' ks' ps' : List ℕ)
    → ChartRan c xs l ls os (Ok n) l' ls' os' → ChartRan c ys l' ks ps (Ok m) l'' ks' ps'
    → ChartRan c (xs ++ ys) l (ls ++ ks) (os ++ ps) (Ok (n + m)) l'' (ls' ++ ks') (os' ++ ps')
unfolding answer left
run_run c xs ys l ls os ks ps n m l' ls' os' l'' ks' ps' p q =
    let v : run_verdict c xs l ls os ≡ (Ok tt) = done_accepted (run_verdict c xs l ls os) n (length xs) p.answers in
    let w : run_verdict c ys l' ks ps ≡ (Ok tt) = done_accepted (run_verdict c ys l' ks ps) m (length ys) q.answers in
    let r = accepted_runnable c xs l ls os v in
    let t = accepted_runnable c ys l' ks ps w in
    let K : Rules c = (accepted_exactly c).0 r.tables in
    let mid : state_of c l' ≡ state_after_scans c (state_of c l) xs = ap (state_of c) (rw v at p.state) ∙ valid_back c K (state_after_scans c (state_of c l) xs) (after_valid c K xs (state_of c l) (lent_valid c K l r.state)) in
    let u : run_verdict c (xs ++ ys) l (ls ++ ks) (os ++ ps) ≡ (Ok tt) = runnable_accepted c (xs ++ ys) l (ls ++ ks) (os ++ ps) (record {
      tables = r.tables;
      state = r.state;
      leaves = rw (length-append, length-append) (omega (arith, r.leaves, t.leaves));
      outputs = rw (length-append, length-append) (omega (arith, r.outputs, t.outputs));
    }) in
    run_by c (xs ++ ys) l (ls ++ ks) (os ++ ps) (Ok (n + m)) l'' (ls' ++ ks') (os' ++ ps')
    (rw u (ap Ok (rw length-append (omega (arith, done_scans c xs l ls os n l' ls' os' p, done_scans c ys l' ks ps m l'' ks' ps' q)))))
    (rw (u, after_append, ← mid) (rw w at q.state))
    (rw (u, trace_append, map-append, ← mid) (ap₂ ◌++◌ (rw v at p.leaves) (rw w at q.leaves)))
    (rw (u, trace_append, map-append, ← mid) (ap₂ ◌++◌ (rw v at p.outputs) (rw w at q.outputs)))

-- ---- scan by scan

-- a scan that is done is a run of one
pub step_run : (c : Tables) (x : ℕ) (l : List ℕ) (a o : ℕ) (l' : List ℕ) (d e : ℕ) → ChartStepped c x l (Ok (step_told a o)) l' → ChartRan c (x ∷ []) l (d ∷ []) (e ∷ []) (Ok 1) l' (a ∷ []) (o ∷ [])
unfolding answer left step_answer trace state_after_scans
step_run c x l a o l' d e p =
    let w : step_verdict c l ≡ (Ok tt) = shown_accepted (step_verdict c l) (seen_in c (state_after_step c x (state_of c l))) a o p.answers in
    let v : run_verdict c (x ∷ []) l (d ∷ []) (e ∷ []) ≡ (Ok tt) = same_verdict c x l d e ∙ w in
    let e' = seen_in c (state_after_step c x (state_of c l)) in
    let z : Ok (step_told a o) ≡ Ok (step_told e'.leaf e'.outputs) = rw w at p.answers in
    let y : step_told a o ≡ step_told e'.leaf e'.outputs = cc in
    let leaf : a ≡ e'.leaf = ap (λ (r : Told). r.leaf) y in
    let word : o ≡ e'.outputs = ap (λ (r : Told). r.outputs) y in
    run_by c (x ∷ []) l (d ∷ []) (e ∷ []) (Ok 1) l' (a ∷ []) (o ∷ []) (rw v) (rw v (rw w at p.state)) (rw v (ap (λ n. n ∷ []) leaf)) (rw v (ap (λ n. n ∷ []) word))

-- a run is a scan and then the run of the rest
pub step_then_run : (c : Tables) (x : ℕ) (xs l : List ℕ) (a o : ℕ) (l' : List ℕ) (d e : ℕ) (ls os : List ℕ) (n : ℕ) (l'' ls' os' : List ℕ)
    → ChartStepped c x l (Ok (step_told a o)) l' → ChartRan c xs l' ls os (Ok n) l'' ls' os' → ChartRan c (x ∷ xs) l (d ∷ ls) (e ∷ os) (Ok (1 + n)) l'' (a ∷ ls') (o ∷ os')
step_then_run c x xs l a o l' d e ls os n l'' ls' os' p q = run_run c (x ∷ []) xs l (d ∷ []) (e ∷ []) ls os 1 n l' (a ∷ []) (o ∷ []) l'' ls' os' (step_run c x l a o l' d e p) q

-- ---- "bits above the count have no effect"

-- these words agree in each scan on the inputs up to the count
pub record SameInputs (c : Tables) (xs ys : List ℕ) : Type 0 where
  pub scans : length xs ≡ length ys
  pub inputs : (k i : ℕ) → 1 ≤ i → i ≤ c.inputs → input_on (get_or xs k 0) i ≡ input_on (get_or ys k 0) i

module _ (c : Tables) (K : Rules c) where
  same_trace : (xs ys : List ℕ) (s : State) → SameInputs c xs ys → (trace c s xs ≡ trace c s ys) × (state_after_scans c s xs ≡ state_after_scans c s ys)
  unfolding trace state_after_scans
  same_trace [] [] s h = (refl, refl)
  same_trace [] (y ∷ ys) s h = absurd (omega (arith, h.scans))
  same_trace (x ∷ xs) [] s h = absurd (omega (arith, h.scans))
  same_trace (x ∷ xs) (y ∷ ys) s h =
      let e : state_after_step c x s ≡ state_after_step c y s = bits_above c K x y (h.inputs 0) s in
      let r = same_trace xs ys (state_after_step c y s) (record { scans = omega (arith, h.scans); inputs = (λ k. h.inputs (suc k)) }) in
      (rw e (ap (λ t. seen_in c (state_after_step c y s) ∷ t) r.0), rw e r.1)

module _ (c : Tables) (xs ys : List ℕ) (h : SameInputs c xs ys) (l ls os : List ℕ) where
  same_checks : run_verdict c ys l ls os ≡ run_verdict c xs l ls os
  unfolding chart_run_checks
  same_checks = rw h.scans

  -- a run answers and leaves the same for both
  pub run_above : (r : Answer) (l' ls' os' : List ℕ) → ChartRan c xs l ls os r l' ls' os' → ChartRan c ys l ls os r l' ls' os'
  run_above r l' ls' os' p = go (run_verdict c xs l ls os) refl
    where
      go : (v : Verdict) → run_verdict c xs l ls os ≡ v → ChartRan c ys l ls os r l' ls' os'
      go (Ok tt) e = unfold left answer in (
          let t = same_trace c ((accepted_exactly c).0 (accepted_runnable c xs l ls os e).tables) xs ys (state_of c l) h in
          run_by c ys l ls os r l' ls' os'
          (rw (same_checks, ← h.scans) p.answers)
          (rw (same_checks, ← t.1) p.state)
          (rw (same_checks, ← t.0) p.leaves)
          (rw (same_checks, ← t.0) p.outputs))
      go (Err q) e = unfold left answer in
          (run_by c ys l ls os r l' ls' os'
          (rw (same_checks, e) (rw e at p.answers))
          (rw (same_checks, e) (rw e at p.state))
          (rw (same_checks, e) (rw e at p.leaves))
          (rw (same_checks, e) (rw e at p.outputs)))

-- and so does one scan
pub step_above : (c : Tables) (x y : ℕ) → ((i : ℕ) → 1 ≤ i → i ≤ c.inputs → input_on x i ≡ input_on y i) → (l : List ℕ) (r : Stepped) (l' : List ℕ) → ChartStepped c x l r l' → ChartStepped c y l r l'
step_above c x y h l r l' p = go (step_verdict c l) refl
  where
    go : (v : Verdict) → step_verdict c l ≡ v → ChartStepped c y l r l'
    go (Ok tt) e = unfold chart_step_checks verdict in (
        let s = bits_above c ((accepted_exactly c).0 (front_accepted (checks c) (state_check c l ∷ []) e)) x y h (state_of c l) in
        record { answers = rw (← s) p.answers; state = rw (← s) p.state })
    go (Err q) e = unfold left step_answer in (record { answers = rw e (rw e at p.answers); state = rw e (rw e at p.state) })

-- ---- from the cleared state

-- the cleared state that the chart type gives, as much of it as the chart's state is long
abbrev pub cleared_for : Tables → List ℕ
cleared_for c = take (lent_length c) (replicate 288 0)

take_zeros : (n m : ℕ) → n ≤ m → take {A = ℕ} n (replicate m 0) ≡ replicate n 0
take_zeros zero m h = refl
take_zeros (suc n) zero h = absurd (omega arith)
take_zeros (suc n) (suc m) h = ap (λ l. 0 ∷ l) (take_zeros n m (omega arith))

module _ (c : Tables) (K : Rules c) where
  enough : lent_length c ≤ 288
  unfolding lent_length super_states_below
  enough = omega (arith, count_le (λ a. not (is_leaf c a)) (state_count c), K.size.few_states, K.size.few_timers)

  zeros : cleared_for c ≡ replicate (lent_length c) 0
  zeros = take_zeros (lent_length c) 288 enough

  -- it passes
  pub cleared_passes : state_passes c (cleared_for c) ≡ true
  cleared_passes = rw zeros (zero_passes c K)

  -- "All zero is the start."
  pub cleared_start : state_of c (cleared_for c) ≡ start_state c
  cleared_start = rw zeros (zero_start c K)

-- demand 3 of a run from the cleared state: leaves and output words are those that the inputs and the earlier leaves call for
pub cleared_run : (c : Tables) (xs ls os : List ℕ) (n : ℕ) (l' ls' os' : List ℕ) → ChartRan c xs (cleared_for c) ls os (Ok n) l' ls' os'
    → (ls' ≡ map (λ (e : Seen). e.leaf) (history_reading c xs)) × (os' ≡ map (λ (e : Seen). e.outputs) (history_reading c xs))
unfolding left
cleared_run c xs ls os n l' ls' os' p =
    let v : run_verdict c xs (cleared_for c) ls os ≡ (Ok tt) = done_accepted (run_verdict c xs (cleared_for c) ls os) n (length xs) p.answers in
    let K : Rules c = (accepted_exactly c).0 (accepted_runnable c xs (cleared_for c) ls os v).tables in
    (rw (← run_is_reading c K xs, ← cleared_start c K) (rw v at p.leaves), rw (← run_is_reading c K xs, ← cleared_start c K) (rw v at p.outputs))
