-- The answers of a run over a lent chart state.
use Rattle.std.specs.Prelude.{◌≡◌, refl, ℕ, ◌≤◌, ◌/◌, Bool, true, false, ◌&&◌, length, replicate, eqb, Ok, Err}
use Rattle.std.proofs.Math.Path.{ap}
use Rattle.std.proofs.Common.{◌∙◌, true≢false}
use Rattle.std.proofs.Math.Bool.{cond}
use mathlib.Core.List.{List, [], ◌∷◌}
use Rattle.std.proofs.lemmas.List.{length-replicate}
use borrow.Author.Tests.{eq-eqb}
use Rattle.meaning.specs.Rows.{least}
use Rattle.meaning.proofs.Laws.Rows.{get_d_equal}
use Rattle.meaning.specs.Tables.{Tables, state_count, move_count}
use Rattle.meaning.specs.Machine.{State}
use Rattle.meaning.specs.Lent.{state_of, lent_of, state_passes}
use Rattle.meaning.specs.Check.{Check, first_failing, verdict_of}
use Rattle.meaning.specs.Calls.{state_check, scans_check}
use Rattle.meaning.specs.declared.Refusal.{Refusal}
use Rattle.meaning.specs.declared.Refusal.TheVariants as R
use Rattle.check_needs.specs.Words.{need_words}
use Rattle.chart_scan.specs.Held.{StateScanned}
use Rattle.chart_lent.specs.Slice.{RunRoom, later_verdict, answer, left, LentRun}

-- slices of n places a state, all 0
pub zero_room : (c : Tables) (n : ℕ) (needs : List ℕ) → state_count c ≤ n → move_count c ≤ length needs / need_words → RunRoom c (replicate n 0) (replicate n 0) (replicate n 0) (replicate n 0) needs
zero_room c n needs h k = record {
  state = record { wants_room = room; memory_room = room; timers_room = refl; runs_room = room; no_memory = get_d_equal 0 n; no_runs = get_d_equal 0 n };
  scans = record { shows_room = room; needs_room = k; no_shows = get_d_equal 0 n };
}
  where
    room : state_count c ≤ length (replicate {A = ℕ} n 0)
    room = rw (length-replicate {A = ℕ} n 0) h

-- a check of one row
pub one_row : (f : ℕ → Refusal) (b : Bool) (ks : List Check) → verdict_of (record { refusal = f; rows = 1; passes = λ i. b } ∷ ks) ≡ cond b (verdict_of ks) (Err (f 0))
unfolding verdict_of first_failing least
one_row f true ks = refl
one_row f false ks = refl

module _ (c : Tables) (xs l ls os : List ℕ) where
  -- the later checks, one test after the other
  pub later : later_verdict c l xs ls os
      ≡ cond (state_passes c l) (cond (eqb (length ls) (length xs)) (cond (eqb (length os) (length xs)) (Ok tt) (Err R.Scans)) (Err R.Scans)) (Err R.State)
  unfolding state_check scans_check verdict_of
  later =
      let last : List Check = scans_check (length xs) (length os) ∷ [] in
      one_row (λ p. R.State) (state_passes c l) (scans_check (length xs) (length ls) ∷ last)
      ∙ ap (λ v. cond (state_passes c l) v (Err R.State)) (one_row (λ p. R.Scans) (eqb (length ls) (length xs)) last
      ∙ ap (λ v. cond (eqb (length ls) (length xs)) v (Err R.Scans)) (one_row (λ p. R.Scans) (eqb (length os) (length xs)) []))

  refused : (r : Refusal) → later_verdict c l xs ls os ≡ Err r → LentRun c xs l ls os (Err r) l ls os
  unfolding answer left
  refused r e = record { answers = rw e; state = rw e; leaves = rw e; outputs = rw e }

  pub refused_state : state_passes c l ≡ false → LentRun c xs l ls os (Err R.State) l ls os
  refused_state e = refused R.State (later ∙ rw e)

  pub refused_scans : state_passes c l ≡ true → (eqb (length ls) (length xs) && eqb (length os) (length xs)) ≡ false → LentRun c xs l ls os (Err R.Scans) l ls os
  refused_scans e n = refused R.Scans (later ∙ rw e (one_differs (eqb (length ls) (length xs)) (eqb (length os) (length xs)) n))
    where
      one_differs : (a b : Bool) → (a && b) ≡ false → cond a (cond b (Ok (tt {0})) (Err R.Scans)) (Err R.Scans) ≡ Err R.Scans
      one_differs true true z = absurd (true≢false z)
      one_differs true false z = refl
      one_differs false b z = refl

  pub done : state_passes c l ≡ true → length ls ≡ length xs → length os ≡ length xs → (s : State) (l' ls' os' : List ℕ)
      → StateScanned c (state_of c l) xs s ls' os' → l' ≡ lent_of c s → LentRun c xs l ls os (Ok (length xs)) l' ls' os'
  unfolding answer left
  done e p q s l' ls' os' r f =
      let v : later_verdict c l xs ls os ≡ (Ok tt) = later ∙ rw (e, eq-eqb (length ls) (length xs) p, eq-eqb (length os) (length xs) q) in
      record { answers = rw v; state = rw v (f ∙ ap (lent_of c) r.state); leaves = rw v r.leaves; outputs = rw v r.outputs }
