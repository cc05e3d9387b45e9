-- A step as the code does it, from its flags and arrays, is the step of the chart.
use Rattle.std.specs.Prelude.{◌≡◌, refl, cond, ◌&&◌, get_or, set, take, ltb}
use Rattle.std.proofs.Common.{sym, subst, ◌∙◌, div-mul-le_self, one-add, add-one, length-take-le, take-suc-set}
use Rattle.std.proofs.Math.Path.{ap, ap₂}
use Prim.Native.Nat.{ℕ, suc, ◌+◌, ◌-◌, ◌≤◌, ◌<◌}
use native.Mathlib.Omega.{arith}
use mathlib.Core.List.{List, [], ◌∷◌, map-append}
use Rattle.std.proofs.Math.ListN.{length}
use Rattle.std.proofs.Math.Seq.{get_or-take, take-suc}
use Rattle.std.proofs.Math.Dec.{leb}
use Rattle.meaning.specs.Rows.{table}
use Rattle.meaning.specs.Tables.{Tables, state_count, move_count, timer_count, preset, preset_steps}
use Rattle.meaning.specs.Hierarchy.{timer_runs, paired}
use Rattle.meaning.specs.Literals.{input_on}
use Rattle.meaning.specs.Rules.{Rules}
use Rattle.meaning.specs.Machine.{State, Valid, seen_in, trace, state_after_scans, timer_value, active_leaf, chosen, timer_expired, timer_after, setting, memory_after_step, memory_after_move, state_after_step, seen_at_leaf}
use Rattle.meaning.proofs.Laws.Machine.{SoundMemory, valid_sound, after_step, moved_sound, trace_append, after_append, chosen_same}
use Rattle.check_pairing.specs.Words.{Tree}
use Rattle.chart_paths.specs.Words.{expired_at}
use Rattle.chart_paths.specs.WalkLaws.{is_table}
use Rattle.chart_scan.specs.Choice.{read}
use Rattle.chart_scan.specs.Held.{StateScanned, held}
use Rattle.chart_timers.specs.Times.{longest, value_grown}

-- the states of accepted tables make a tree
pub rules_tree : (c : Tables) → Rules c → Tree c
rules_tree c R = record { few = R.size.few_states; hierarchy = R.hierarchy }

module _ (c : Tables) (R : Rules c) where
  -- the choice by words
  pub chosen_on : (x w y l : ℕ) (m ts : List ℕ) → l ≡ active_leaf c (take (state_count c) m) → ((n : ℕ) → n < 64 → input_on w (suc n) ≡ paired c c.timer_pairs (suc n) l)
      → ((i : ℕ) → i < timer_count c → input_on y (suc i) ≡ expired_at c.presets w ts i)
      → chosen c (read (record { inputs = x; timers = y })) l ≡ chosen c (setting c x (held c m ts)) (active_leaf c (take (state_count c) m))
  unfolding setting
  chosen_on x w y l m ts e q f = rw e (chosen_same c R (read (record { inputs = x; timers = y })) (setting c x (held c m ts)) (λ i a b. refl) same (active_leaf c (take (state_count c) m)))
    where
      row : (i : ℕ) → i < timer_count c → input_on y (suc i) ≡ timer_expired c (active_leaf c (take (state_count c) m)) (take (timer_count c) ts) (suc i)
      row i h = unfold timer_expired timer_runs preset timer_value in (
          let few = R.size.few_timers in
          let z : suc i - 1 ≡ i = omega arith in
          rw (z, get_or-take (timer_count c) ts i 0 h, ← e) (f i h ∙ ap (λ d. d && leb (get_or c.presets i 0) (get_or ts i 0)) (q i (omega arith))))

      same : (t : ℕ) → 1 ≤ t → t ≤ timer_count c → input_on y t ≡ timer_expired c (active_leaf c (take (state_count c) m)) (take (timer_count c) ts) t
      same t a b = let z : t ≡ suc (t - 1) = omega arith in rw z (row (t - 1) (omega arith))

  -- N scan steps fit 32 bits
  pub longest_fits : (i : ℕ) → i < timer_count c → longest c.scan_step (get_or c.presets i 0) < 4294967296
  longest_fits i h = go
    where
      high : get_or c.presets i 0 ≤ 86400000
      high = unfold preset in (let z : suc i - 1 ≡ i = omega arith in rw z at (R.presets i h).high)

      go : longest c.scan_step (get_or c.presets i 0) < 4294967296
      go = omega (arith, div-mul-le_self (get_or c.presets i 0 + c.scan_step - 1) c.scan_step, high, R.size.small_step)

  -- N scan steps of each timer, from the lent presets
  pub longest_made : (ps most : List ℕ) (d : ℕ) → c.presets ≡ ps → c.scan_step ≡ d
      → (length ps ≤ 32 → 1 ≤ d → (i : ℕ) → i < length ps → longest d (get_or ps i 0) < 4294967296 → get_or most i 0 ≡ longest d (get_or ps i 0))
      → (i : ℕ) → i < timer_count c → get_or most i 0 ≡ longest c.scan_step (get_or c.presets i 0)
  longest_made ps most d e f g i h =
      let n : timer_count c ≡ length ps = unfold timer_count in (ap length e) in
      let few = R.size.few_timers in
      let some = R.size.some_step in
      rw (e, f) (g (omega arith) (omega arith) i (omega arith) (rw (e, f) at (longest_fits i h)))

  -- the timers after a step
  pub timers_after : (l l' w : ℕ) (ts next : List ℕ) → length next ≡ 32 → ((n : ℕ) → n < 64 → input_on w (suc n) ≡ (paired c c.timer_pairs (suc n) l && paired c c.timer_pairs (suc n) l'))
      → ((i : ℕ) → i < timer_count c → get_or next i 0 ≡ value_grown c.scan_step (longest c.scan_step (get_or c.presets i 0)) (input_on w (suc i)) (get_or ts i 0))
      → take (timer_count c) next ≡ table (timer_after c l l' (take (timer_count c) ts)) 1 (timer_count c)
  timers_after l l' w ts next e p f = let few = R.size.few_timers in
      is_table (timer_after c l l' (take (timer_count c) ts)) 1 (timer_count c) (take (timer_count c) next) (length-take-le (timer_count c) next (omega arith))
      (λ i h. get_or-take (timer_count c) next i 0 h ∙ f i h ∙ rw one-add (sym (row i h)))
    where
      row : (i : ℕ) → i < timer_count c → timer_after c l l' (take (timer_count c) ts) (suc i) ≡ value_grown c.scan_step (longest c.scan_step (get_or c.presets i 0)) (input_on w (suc i)) (get_or ts i 0)
      row i h = unfold timer_after timer_runs preset_steps preset timer_value in (
          let few = R.size.few_timers in
          let z : suc i - 1 ≡ i = omega arith in
          rw (z, get_or-take (timer_count c) ts i 0 h, p i (omega arith)))

  -- the memory and the timers after a step make the state after it
  pub step_is : (x : ℕ) (s : State) (m ts : List ℕ) → m ≡ memory_after_step c x s → ts ≡ table (timer_after c (active_leaf c s.memory) (active_leaf c m) s.timers) 1 (timer_count c)
      → ◌≡◌ {A = State} (record { memory = m; timers = ts }) (state_after_step c x s)
  unfolding state_after_step
  step_is x s m ts p q = ap₂ (λ (a b : List ℕ). the_state a b) p (q ∙ ap (λ a. table (timer_after c (active_leaf c s.memory) (active_leaf c a) s.timers) 1 (timer_count c)) p)
    where
      the_state : List ℕ → List ℕ → State
      the_state a b = record { memory = a; timers = b }

  -- the arrays that a step leaves hold the state after it
  pub step_held : (x i w : ℕ) (m ts m' ts' : List ℕ) → Valid c (held c m ts) → length ts' ≡ 32
      → i ≡ chosen c (setting c x (held c m ts)) (active_leaf c (take (state_count c) m))
      → take (state_count c) m' ≡ cond (ltb i (move_count c)) (memory_after_move c i (take (state_count c) m)) (take (state_count c) m)
      → (SoundMemory c (take (state_count c) m') → (n : ℕ) → n < 64
      → input_on w (suc n) ≡ (paired c c.timer_pairs (suc n) (active_leaf c (take (state_count c) m)) && paired c c.timer_pairs (suc n) (active_leaf c (take (state_count c) m'))))
      → ((j : ℕ) → j < timer_count c → get_or ts' j 0 ≡ value_grown c.scan_step (longest c.scan_step (get_or c.presets j 0)) (input_on w (suc j)) (get_or ts j 0))
      → held c m' ts' ≡ state_after_step c x (held c m ts)
  step_held x i w m ts m' ts' v e q f g h = step_is x (held c m ts) _ _ after_memory (timers_after _ _ w ts ts' e (g sound) h)
    where
      after_memory : take (state_count c) m' ≡ memory_after_step c x (held c m ts)
      after_memory = unfold memory_after_step in (rw q at f)

      sound : SoundMemory c (take (state_count c) m')
      sound = let S = valid_sound c R (held c m ts) v in rw after_memory (after_step c x (held c m ts) (SoundMemory c) S (moved_sound c R (take (state_count c) m) S))

-- ---- scans

module _ (c : Tables) (s : State) where
  -- one scan more
  pub ran_more : (xs ls os : List ℕ) (s' : State) (i x : ℕ) → x ≡ get_or xs i 0 → i < length xs → i < length ls → i < length os
      → StateScanned c s (take i xs) s' (take i ls) (take i os)
      → StateScanned c s (take (suc i) xs) (state_after_step c x s') (take (suc i) (set ls i (seen_in c (state_after_step c x s')).leaf)) (take (suc i) (set os i (seen_in c (state_after_step c x s')).outputs))
  unfolding trace state_after_scans
  ran_more xs ls os s' i x e h j k r = record {
    state = rw (take-suc xs i 0 h, ← e, after_append c s (take i xs) (x ∷ []), ← r.state);
    leaves = rw (take-suc-set ls i _ j, take-suc xs i 0 h, ← e, trace_append c s (take i xs) (x ∷ []), map-append, ← r.leaves, ← r.state);
    outputs = rw (take-suc-set os i _ k, take-suc xs i 0 h, ← e, trace_append c s (take i xs) (x ∷ []), map-append, ← r.outputs, ← r.state);
  }

  -- one scan more, as the code holds and shows it
  pub ran_shown : (xs ls os ls' os' m ts m' ts' : List ℕ) (i x : ℕ) → x ≡ get_or xs i 0 → i < length xs → i < length ls → i < length os
      → StateScanned c s (take i xs) (held c m ts) (take i ls) (take i os) → held c m' ts' ≡ state_after_step c x (held c m ts)
      → ls' ≡ set ls i (active_leaf c (take (state_count c) m')) → os' ≡ set os i (seen_at_leaf c (active_leaf c (take (state_count c) m'))).outputs
      → StateScanned c s (take (i + 1) xs) (held c m' ts') (take (i + 1) ls') (take (i + 1) os')
  unfolding seen_in seen_at_leaf
  ran_shown xs ls os ls' os' m ts m' ts' i x e h j k r f p q = rw (add-one, p, q)
      (subst (λ (t : State). StateScanned c s (take (suc i) xs) t (take (suc i) (set ls i (seen_in c t).leaf)) (take (suc i) (set os i (seen_in c t).outputs))) (sym f) (ran_more xs ls os (held c m ts) i x e h j k r))
