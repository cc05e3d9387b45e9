-- Demand 3 for the machine: a run is what its reading says, which looks at inputs and earlier leaves alone.
use Rattle.std.specs.Prelude.{◌≡◌, false, ltb}
use Rattle.std.proofs.Math.Path.{refl, ap, fun_ext}
use Rattle.std.proofs.Common.{◌∙◌, mul-le-mul_right, div-lt_iff_lt-mul, le_refl, arith, leb-true, le-leb, ltb-true}
use Rattle.std.proofs.Math.Logic.{inl, inr}
use Prim.Native.Nat.{ℕ, zero, suc, ◌+◌, ◌*◌, ◌-◌, ◌/◌, ◌≤◌, ◌<◌, min}
use Rattle.std.proofs.Math.Bool.{true}
use mathlib.Core.List.{List, [], ◌∷◌, map}
use Rattle.std.proofs.Math.Dec.{leb}
use Rattle.std.proofs.lemmas.Bool.{lt-leb}
use Rattle.meaning.proofs.Laws.Rows.{which, same_test}
use Rattle.meaning.specs.Tables.{Tables, state_count, move_count, timer_count, initial, target, mark, preset, preset_steps}
use Rattle.meaning.specs.Hierarchy.{above, is_leaf, timer_runs}
use Rattle.meaning.proofs.Laws.Hierarchy.{timer_runs_tells}
use Rattle.meaning.specs.Literals.{input_on}
use Rattle.meaning.specs.Rules.{Rules}
use Rattle.meaning.specs.Machine.{State, remembered, timer_value, follow, active_leaf, chosen, leads_below, memory_after_move, timer_expired, timer_after, start_state, setting, memory_after_step, state_after_step, seen_at_leaf, seen_in, trace, Valid}
use Rattle.meaning.proofs.Laws.Follow.{super_known, initial_leads, follow_same, remembers_path, below_leads}
use Rattle.meaning.proofs.Laws.Machine.{SoundMemory, remembered_table, timer_table, valid_sound, table_leaf, moved_leaf, start_valid, step_valid, step_stays}
use Rattle.meaning.specs.History.{last_active, last_ran, expired_by, next_leaf, first_leaf, leaves_from, history_reading}

-- ---- scan steps

-- two orders that hold together are one test
pub same_order : (a b p q : ℕ) → (a ≤ b → p ≤ q) → (p ≤ q → a ≤ b) → leb a b ≡ leb p q
same_order a b p q f g = same_test _ _ (λ e. le-leb p q (f (leb-true a b e))) (λ e. le-leb a b (g (leb-true p q e)))

-- j steps reach p exactly when they are as many as p divided by the step, rounded up
reaches : (p d j : ℕ) → 1 ≤ d → leb p (j * d) ≡ leb ((p + d - 1) / d * d) (j * d)
reaches p d j h = same_order p (j * d) ((p + d - 1) / d * d) (j * d)
    (λ f. mul-le-mul_right d (let z : (p + d - 1) / d < suc j = (div-lt_iff_lt-mul {k = d} {x = p + d - 1} {y = suc j} h).1 (omega arith) in omega arith))
    (λ f. omega (arith, (div-lt_iff_lt-mul {k = d} {x = p + d - 1} {y = suc ((p + d - 1) / d)} h).0 (le_refl _)))

-- below the most, one step more is reached when one step less was
grows : (d v n k : ℕ) → k < n → leb (suc k * d) (min (v + d) (n * d)) ≡ leb (k * d) v
grows d v n k h = let z = mul-le-mul_right d h in same_order (suc k * d) (min (v + d) (n * d)) (k * d) v (λ e. omega arith) (λ e. omega arith)

-- ---- the state and the leaves so far

-- the state s is what its past calls for: ls are the leaves before the present one, the latest first
pub record ReadsPast (c : Tables) (s : State) (ls : List ℕ) : Type 0 where
  pub valid : Valid c s
  -- what a super-state remembers was active last
  pub memory : (a : ℕ) → is_leaf c a ≡ false → remembered s.memory a ≡ last_active c (active_leaf c s.memory ∷ ls) a
  -- a timer that runs has reached k scan steps exactly when the k leaves before ran it too
  pub timers : (t k : ℕ) → timer_runs c t (active_leaf c s.memory) ≡ true → k ≤ preset_steps c t → leb (k * c.scan_step) (timer_value s.timers t) ≡ last_ran c t k ls

module _ (c : Tables) (R : Rules c) where
  -- only a timer of the table runs
  pub runs_known : (t l : ℕ) → timer_runs c t l ≡ true → (1 ≤ t) × (t ≤ timer_count c)
  runs_known t l e = let r = (timer_runs_tells c t l).0 e in let p = R.timer_pairs r.row r.known in (omega (arith, r.timer, p.low), omega (arith, r.timer, p.high))

  -- every value has reached no steps, and 0 has reached no more
  at_least_none : (v : ℕ) → leb (0 * c.scan_step) v ≡ true
  at_least_none v = le-leb (0 * c.scan_step) v (omega arith)

  never : (k : ℕ) → leb (suc k * c.scan_step) 0 ≡ false
  never k = lt-leb (suc k * c.scan_step) 0 (omega (arith, R.size.some_step))

  -- a memory that keeps what was active last off the path has it on the path too
  recalls : (s : State) → Valid c s → (ls : List ℕ) → ((a : ℕ) → is_leaf c a ≡ false → above c a (active_leaf c s.memory) ≡ false → remembered s.memory a ≡ last_active c ls a)
      → (a : ℕ) → is_leaf c a ≡ false → remembered s.memory a ≡ last_active c (active_leaf c s.memory ∷ ls) a
  unfolding last_active active_leaf
  recalls s v ls keep a n = elim (which (above c a (active_leaf c s.memory))) [
    | inl e ↦ rw e (remembers_path c R _ (valid_sound c R s v).leads a e)
    | inr e ↦ rw e (keep a n e)
  ]

  -- so it is at the start, with no leaf before
  pub start_reads : ReadsPast c (start_state c) []
  unfolding start_state last_active
  start_reads = record {
    valid = start_valid c R;
    memory = recalls (start_state c) (start_valid c R) [] (λ a n e. remembered_table (initial c) (state_count c) a (super_known c R a n));
    timers = (λ t k e h. let r = runs_known t _ e in rw (timer_table (λ t. 0) (timer_count c) t r.0 r.1) (none t k));
  }
    where
      none : (t k : ℕ) → leb (k * c.scan_step) 0 ≡ last_ran c t k []
      none t zero = unfold last_ran in (at_least_none 0)
      none t (suc k) = unfold last_ran in (never k)

  module _ (s : State) (ls : List ℕ) (r : ReadsPast c s ls) where
    abbrev now : ℕ
    now = active_leaf c s.memory

    -- "a timer is expired before a step when that step's active leaf and the N before it all lie at or below the timer's paired states"
    expires : (t : ℕ) → timer_expired c (active_leaf c s.memory) s.timers t ≡ expired_by c (active_leaf c s.memory ∷ ls) t
    unfolding timer_expired expired_by last_ran preset_steps
    expires t = elim (which (timer_runs c t now)) [
      | inl e ↦ rw e (
          let k = runs_known t now e in let w = r.valid.whole t k.0 k.1 in
          let q : leb (preset c t) (timer_value s.timers t) ≡ leb (preset_steps c t * c.scan_step) (timer_value s.timers t) = rw w.2 (reaches (preset c t) c.scan_step w.0 R.size.some_step) in
          q ∙ r.timers t (preset_steps c t) e (le_refl _))
      | inr e ↦ rw e
    ]

    -- the literals read what the reading says
    same_setting : (x : ℕ) → setting c x s ≡ record { input = input_on x; expired = expired_by c (active_leaf c s.memory ∷ ls) }
    unfolding setting
    same_setting x = ap (λ e. record { input = input_on x; expired = e }) (fun_ext expires)

    -- a move leads to the leaf that the leaves so far call for
    lands : (i : ℕ) → i < move_count c → active_leaf c (memory_after_move c i s.memory) ≡ follow c (leads_below c (mark c i) (last_active c (active_leaf c s.memory ∷ ls))) (target c i)
    lands i h =
        moved_leaf c R s.memory S i h
        ∙ follow_same c R (leads_below c (mark c i) (remembered s.memory)) (below_leads c R (mark c i) _ S.leads) (leads_below c (mark c i) (last_active c (now ∷ ls))) (target c i) (λ a n p q. guides (mark c i) a (r.memory a n))
      where
        S : SoundMemory c s.memory
        S = valid_sound c R s r.valid

        guides : (k a : ℕ) → remembered s.memory a ≡ last_active c (now ∷ ls) a → leads_below c k (remembered s.memory) a ≡ leads_below c k (last_active c (now ∷ ls)) a
        guides zero a e = unfold leads_below in refl
        guides (suc k) a e = unfold leads_below in e

    -- the leaf after a step is the reading's
    pub next_read : (x : ℕ) → active_leaf c (state_after_step c x s).memory ≡ next_leaf c x (active_leaf c s.memory) ls
    unfolding state_after_step memory_after_step next_leaf
    next_read x = rw (same_setting x) (elim (which (ltb i (move_count c))) [
      | inl e ↦ rw e (lands i (ltb-true i (move_count c) e))
      | inr e ↦ rw e
    ])
      where
        i : ℕ
        i = chosen c (record { input = input_on x; expired = expired_by c (now ∷ ls) }) now

    -- a step more that a timer ran
    ticks : (x t k : ℕ) → timer_runs c t (active_leaf c (memory_after_step c x s)) ≡ true → k ≤ preset_steps c t → leb (k * c.scan_step) (timer_after c now (active_leaf c (memory_after_step c x s)) s.timers t) ≡ last_ran c t k (now ∷ ls)
    unfolding last_ran timer_after
    ticks x t zero e h = at_least_none _
    ticks x t (suc k) e h = rw e (elim (which (timer_runs c t now)) [
      | inl f ↦ rw f (grows c.scan_step (timer_value s.timers t) (preset_steps c t) k h ∙ r.timers t k f (omega arith))
      | inr f ↦ rw f (never k)
    ])

    step_ticks : (x t k : ℕ) → timer_runs c t (active_leaf c (state_after_step c x s).memory) ≡ true → k ≤ preset_steps c t → leb (k * c.scan_step) (timer_value (state_after_step c x s).timers t) ≡ last_ran c t k (now ∷ ls)
    unfolding state_after_step
    step_ticks x t k e h = let q = runs_known t _ e in rw (timer_table (timer_after c now (active_leaf c (memory_after_step c x s)) s.timers) (timer_count c) t q.0 q.1) (ticks x t k e h)

    -- so it is after a step, with one leaf more before
    pub step_reads : (x : ℕ) → ReadsPast c (state_after_step c x s) (active_leaf c s.memory ∷ ls)
    step_reads x = record {
      valid = step_valid c R x s r.valid;
      memory = recalls (state_after_step c x s) (step_valid c R x s r.valid) (now ∷ ls) (λ a n e. step_stays c R s r.valid x a n e ∙ r.memory a n);
      timers = step_ticks x;
    }

  -- from any such state on, a run gives what the reading gives
  pub reads : (xs : List ℕ) (s : State) (ls : List ℕ) → ReadsPast c s ls → trace c s xs ≡ map (seen_at_leaf c) (leaves_from c (active_leaf c s.memory) ls xs)
  unfolding trace seen_in leaves_from
  reads [] s ls r = refl
  reads (x ∷ xs) s ls r = rw (← next_read s ls r x) (ap (λ l. seen_in c (state_after_step c x s) ∷ l) (reads xs (state_after_step c x s) (active_leaf c s.memory ∷ ls) (step_reads s ls r x)))

-- demand 3: what is seen after each scan from the start is what the reading says
pub run_is_reading : (c : Tables) → Rules c → (xs : List ℕ) → trace c (start_state c) xs ≡ history_reading c xs
unfolding history_reading start_state first_leaf
run_is_reading c R xs = reads c R xs (start_state c) [] (start_reads c R) ∙ ap (λ l. map (seen_at_leaf c) (leaves_from c l [] xs)) (table_leaf c R (initial c) (initial_leads c R))
