-- Codes that pass stand for a memory, and the code's tests are the definition's.
use Rattle.std.specs.Prelude.{◌≡◌, refl, ◌≢◌, ◌⊎◌, Bool, true, false, cond, List, [], ◌∷◌, ◌++◌, get_or, set, take, drop, eqb}
use Rattle.std.proofs.Math.Path.{sym, ap}
use Rattle.std.proofs.Common.{ap₂, ◌∙◌, zero-add, true≢false, append_assoc, append-nil, length-drop, get_or-set_same, get_or-set_other, get_or-drop}
use Rattle.std.proofs.Math.Logic.{inl, inr}
use Prim.Native.Nat.{ℕ, zero, suc, ◌+◌, ◌-◌, ◌≤◌, ◌<◌}
use native.Mathlib.Omega.{arith}
use Rattle.std.proofs.Math.Decide.{dec_le, ℕ_discrete}
use Rattle.std.proofs.Math.Bool.{not, and-false}
use Rattle.std.proofs.Math.ListN.{length}
use Rattle.std.proofs.Math.Seq.{get_or-take, length-take-le, ext_get_or}
use Rattle.std.proofs.Math.Dec.{ltb}
use borrow.Author.Tests.{eq-eqb, ne_eqb, lt-ltb, le-ltb, eqb-true, ltb-true}
use Rattle.meaning.specs.Rows.{least, some, every, count}
use Rattle.meaning.proofs.Laws.Rows.{which, false_by, and_l, some_no, some_yes, least_before, least_passes, least_none, every_yes, count_past, length_table, some_same}
use Rattle.meaning.specs.Tables.{Tables, state_count, timer_count, preset, preset_steps, super_state, initial}
use Rattle.meaning.specs.Hierarchy.{sub_state, is_leaf, paired, timer_runs}
use Rattle.meaning.proofs.Laws.Hierarchy.{sub_state_tells, leaf_tells}
use Rattle.meaning.specs.Layout.{group_width, group_first, code}
use Rattle.meaning.specs.Literals.{input_on}
use Rattle.meaning.specs.Rules.{Rules}
use Rattle.meaning.proofs.Laws.Rules as rule
use Rattle.meaning.proofs.Laws.Follow.{super_known}
use Rattle.meaning.specs.Machine.{remembered, timer_value, active_leaf}
use Rattle.meaning.proofs.Laws.Machine.{SoundMemory, remembered_table}
use Rattle.meaning.specs.Lent.{super_states_below, lent_length, coded, lent_code, lent_memory, state_of, lent_codes, code_passes, timer_passes, state_passes}
use Rattle.chart_paths.specs.WalkLaws.{remembered_take, is_table}
use Rattle.layout.specs.Laid.{laid_states, given_code, row}
use Rattle.layout.specs.LaidLaws.{code_at_lem}
use Rattle.chart_state_read.specs.Codes.{code_in, codes_in, entry_of, CodesStand, Wanted, found_from, Found}
use Rattle.chart_state_rules.specs.Values.{row_passes}

-- ---- rows

-- one passes exactly where the least that passes is one of them
pub some_least : (p : ℕ → Bool) (n : ℕ) → some p 0 n ≡ ltb (least p 0 n) n
some_least p n = elim (which (some p 0 n)) [
  | inl e ↦ (let r = some_yes p 0 n e in elim (dec_le (suc (least p 0 n)) n) [
    | yes h ↦ e ∙ sym (lt-ltb (least p 0 n) n h)
    | no h ↦ absurd (true≢false (sym r.3 ∙ least_before p 0 n r.0 (omega arith) (omega (arith, r.2))))
  ])
  | inr e ↦ e ∙ sym (le-ltb (least p 0 n) n (omega (arith, least_none p 0 n (λ k a b. some_no p 0 n e k a b))))
]

some_shift : (p : ℕ → Bool) (i n : ℕ) → some p (suc i) n ≡ some (λ k. p (suc k)) i n
unfolding some
some_shift p i zero = refl
some_shift p i (suc n) = elim (which (p (suc i))) [ inl e ↦ rw (some, e) | inr e ↦ rw (some, e) (some_shift p (suc i) n) ]

every_same : (p q : ℕ → Bool) (n : ℕ) → ((k : ℕ) → k < n → p k ≡ q k) → every p 0 n ≡ every q 0 n
every_same p q n h = ap not (some_same (λ k. not (p k)) (λ k. not (q k)) 0 n (λ k a b. ap not (h k (omega arith))))

-- ---- codes

-- one state more
pub below_suc : (c : Tables) (a : ℕ) → super_states_below c (suc a) ≡ super_states_below c a + cond (is_leaf c a) 0 1
unfolding super_states_below count
below_suc c a = elim (which (is_leaf c a)) [ inl e ↦ rw e | inr e ↦ rw e ]

-- the code of one state more
codes_snoc : (c : Tables) (m : List ℕ) (a n : ℕ) → lent_codes c m a (suc n) ≡ lent_codes c m a n ++ cond (is_leaf c (a + n)) [] (code c (remembered m (a + n)) ∷ [])
unfolding lent_codes
codes_snoc c m a zero = let z : a + 0 ≡ a = omega arith in rw z (append-nil (cond (is_leaf c a) [] (code c (remembered m a) ∷ [])))
codes_snoc c m a (suc n) = let z : a + suc n ≡ suc a + n = omega arith in
    rw z (ap (λ l. cond (is_leaf c a) [] (code c (remembered m a) ∷ []) ++ l) (codes_snoc c m (suc a) n)
    ∙ sym (append_assoc (cond (is_leaf c a) [] (code c (remembered m a) ∷ [])) (lent_codes c m (suc a) n) (cond (is_leaf c (suc a + n)) [] (code c (remembered m (suc a + n)) ∷ []))))

codes_same : (c : Tables) (cs m m' : List ℕ) (n : ℕ) → ((a : ℕ) → a < n → cond (is_leaf c a) [] (code c (remembered m' a) ∷ []) ≡ code_in c cs m a) → codes_in c cs m n ≡ lent_codes c m' 0 n
unfolding codes_in lent_codes
codes_same c cs m m' zero h = refl
codes_same c cs m m' (suc n) h = ap₂ ◌++◌ (codes_same c cs m m' n (λ a z. h a (omega arith))) (sym (h n (omega arith))) ∙ sym (codes_snoc c m' 0 n ∙ rw (zero-add n))

-- what has a sub-state is no leaf
no_leaf : (c : Tables) (a s : ℕ) → sub_state c a s ≡ true → is_leaf c a ≡ false
no_leaf c a s e = false_by (is_leaf c a) (λ f. (leaf_tells c a).0 f s ((sub_state_tells c a s).0 e))

-- a state is under no other than its super-state, and the root under none
pub coded_else : (c : Tables) (a k s : ℕ) → (s ≡ 0) ⊎ (a ≢ super_state c s) → coded c a k s ≡ false
unfolding coded
coded_else c a k s h = false_by (coded c a k s) (λ e. let t = (sub_state_tells c a s).0 (and_l _ _ e) in elim h [ inl z ↦ t.not_root z | inr n ↦ n (sym t.under) ])

-- under its super-state it is the one with its code
pub coded_own : (c : Tables) (k s : ℕ) → s ≢ 0 → s < state_count c → coded c (super_state c s) k s ≡ eqb (code c s) k
unfolding coded
coded_own c k s n h = rw ((sub_state_tells c (super_state c s) s).1 (record { not_root = n; known = h; under = refl }))

-- the code of one super-state more, and no sub-state for it; a leaf has neither
module _ (c : Tables) (a : ℕ) where
  pub wanted_more : (l ws : List ℕ) → a < length ws → Wanted c l a ws → Wanted c l (suc a) (cond (is_leaf c a) ws (set ws a (lent_code c l a)))
  wanted_more l ws h w j y f = elim (ℕ_discrete j a) [
    | yes e ↦ (let g : is_leaf c a ≡ false = rw e at f in rw (e, g) (get_or-set_same ws a (lent_code c l a) 0 h))
    | no d ↦ elim (which (is_leaf c a)) [
      | inl g ↦ rw g (w j (omega arith) f)
      | inr g ↦ rw g (get_or-set_other ws a j (lent_code c l a) 0 d ∙ w j (omega arith) f)
    ]
  ]

  pub unfound_more : (m : List ℕ) (n : ℕ) → a < length m → ((j : ℕ) → j < a → get_or m j 0 ≡ cond (is_leaf c j) 0 n) → ((j : ℕ) → a ≤ j → get_or m j 0 ≡ 0)
      → (j : ℕ) → j < suc a → get_or (cond (is_leaf c a) m (set m a n)) j 0 ≡ cond (is_leaf c j) 0 n
  unfound_more m n h p q j y = elim (which (is_leaf c a)) [
    | inl g ↦ elim (ℕ_discrete j a) [ yes e ↦ rw (e, g) (q a (omega arith)) | no d ↦ rw g (p j (omega arith)) ]
    | inr g ↦ elim (ℕ_discrete j a) [ yes e ↦ rw (e, g) (get_or-set_same m a n 0 h) | no d ↦ rw g (get_or-set_other m a j n 0 d ∙ p j (omega arith)) ]
  ]

  pub unfound_rest : (m : List ℕ) (n : ℕ) → ((j : ℕ) → a ≤ j → get_or m j 0 ≡ 0) → (j : ℕ) → suc a ≤ j → get_or (cond (is_leaf c a) m (set m a n)) j 0 ≡ 0
  unfound_rest m n q j y = elim (which (is_leaf c a)) [
    | inl g ↦ rw g (q j (omega arith))
    | inr g ↦ rw g (get_or-set_other m a j n 0 (λ z. omega arith) ∙ q j (omega arith))
  ]

-- the codes alone, as the layout has them
pub codes_given : (c : Tables) → state_count c ≤ 256 → (cs : List ℕ) → cs ≡ row (given_code c) (laid_states c) → CodesStand c cs
codes_given c h cs e = code_at_lem c (record { first = row (group_first c) (laid_states c); width = row (group_width c) (laid_states c); code = cs; total = group_first c (laid_states c) })
    (record { first = refl; width = refl; code = e; total = refl }) h

module _ (c : Tables) (R : Rules c) where
  pub leaf_initial : (a : ℕ) → a < state_count c → is_leaf c a ≡ eqb (initial c a) 0
  leaf_initial a h = rule.leaf_initial c a ((rule.initial_tells c a).1 (R.initials a h))

  pub leaf_at : (a : ℕ) → a < state_count c → initial c a ≡ 0 → is_leaf c a ≡ true
  leaf_at a h e = leaf_initial a h ∙ eq-eqb (initial c a) 0 e

  pub super_at : (a : ℕ) → a < state_count c → initial c a ≢ 0 → is_leaf c a ≡ false
  super_at a h n = leaf_initial a h ∙ ne_eqb (initial c a) 0 n

  -- what is remembered is a state exactly where the code passes
  pub code_passes_lem : (l : List ℕ) (a : ℕ) → code_passes c l a ≡ ltb (entry_of c l a) (state_count c)
  unfolding code_passes
  code_passes_lem l a = elim (which (is_leaf c a)) [
    | inl e ↦ rw e (sym (lt-ltb 0 (state_count c) R.size.some_state))
    | inr e ↦ rw e (some_least (coded c a (lent_code c l a)) (state_count c))
  ]

  -- codes that pass stand for a memory
  pub codes_sound : (l : List ℕ) → every (code_passes c l) 0 (state_count c) ≡ true → SoundMemory c (lent_memory c l)
  unfolding lent_memory coded
  codes_sound l e = record {
    entries = length_table (entry_of c l) 0 (state_count c);
    leads = (λ a n. let h = super_known c R a n in
        let z : entry_of c l a ≡ least (coded c a (lent_code c l a)) 0 (state_count c) = rw n in
        let k : least (coded c a (lent_code c l a)) 0 (state_count c) < state_count c =
        rw z at (ltb-true (entry_of c l a) (state_count c) (sym (code_passes_lem l a) ∙ every_yes (code_passes c l) (state_count c) e a h)) in
        rw (remembered_table (entry_of c l) (state_count c) a h, n)
        ((sub_state_tells c a _).0 (and_l _ _ (least_passes (coded c a (lent_code c l a)) 0 (state_count c) (omega arith)))));
    leaf_entries = (λ a h n. remembered_table (entry_of c l) (state_count c) a h ∙ rw n);
  }

  -- ---- what the states give to remember, from the last on

  -- no state has been looked at
  pub found_none : (l : List ℕ) (a : ℕ) → found_from c l (state_count c) a ≡ cond (is_leaf c a) 0 (state_count c)
  unfolding least
  found_none l a = let z : state_count c - state_count c ≡ 0 = omega arith in rw z

  -- one state more: it counts where it has the code
  found_more : (l : List ℕ) (s a : ℕ) → s < state_count c → found_from c l s a ≡ cond (is_leaf c a) 0 (cond (coded c a (lent_code c l a) s) s (least (coded c a (lent_code c l a)) (suc s) (state_count c - suc s)))
  unfolding least
  found_more l s a h = let z : state_count c - s ≡ suc (state_count c - suc s) = omega arith in
      rw z (elim (which (coded c a (lent_code c l a) s)) [ inl e ↦ rw (least, e) | inr e ↦ rw (least, e) ])

  -- it is no sub-state of a with that code
  pub found_past : (l : List ℕ) (s a : ℕ) → s < state_count c → coded c a (lent_code c l a) s ≡ false → found_from c l (suc s) a ≡ found_from c l s a
  found_past l s a h e = sym (found_more l s a h ∙ rw e)

  -- it is
  pub found_here : (l : List ℕ) (s a : ℕ) → s < state_count c → coded c a (lent_code c l a) s ≡ true → found_from c l s a ≡ s
  unfolding coded
  found_here l s a h e = found_more l s a h ∙ rw (no_leaf c a s (and_l _ _ e), e)

  -- the super-state of a state is a state
  pub super_of : (s : ℕ) → s ≢ 0 → s < state_count c → super_state c s < state_count c
  super_of s n h = super_known c R (super_state c s) (no_leaf c (super_state c s) s ((sub_state_tells c (super_state c s) s).1 (record { not_root = n; known = h; under = refl })))

  -- whether it has the code that is wanted, by the arrays
  pub own_coded : (l cs ws : List ℕ) (s : ℕ) → s ≢ 0 → s < state_count c → CodesStand c cs → Wanted c l (state_count c) ws
      → coded c (super_state c s) (lent_code c l (super_state c s)) s ≡ eqb (get_or cs s 0) (get_or ws (super_state c s) 0)
  own_coded l cs ws s n h C W =
      let a = super_state c s in
      let u : sub_state c a s ≡ true = (sub_state_tells c a s).1 (record { not_root = n; known = h; under = refl }) in
      rw (C a s (super_of s n h) u, W a (super_of s n h) (no_leaf c a s u)) (coded_own c (lent_code c l a) s n h)

  -- it has, and is remembered
  pub found_set : (l m : List ℕ) (s : ℕ) → s < state_count c → coded c (super_state c s) (lent_code c l (super_state c s)) s ≡ true → super_state c s < length m
      → Found c l (suc s) m → Found c l s (set m (super_state c s) s)
  found_set l m s h t k F j z = elim (ℕ_discrete j (super_state c s)) [
    | yes e ↦ rw e (get_or-set_same m (super_state c s) s 0 k ∙ sym (found_here l s (super_state c s) h t))
    | no d ↦ get_or-set_other m (super_state c s) j s 0 d ∙ F j z ∙ found_past l s j h (coded_else c j (lent_code c l j) s (inr d))
  ]

  -- it has not, and nothing changes
  pub found_keep : (l m : List ℕ) (s : ℕ) → s < state_count c → coded c (super_state c s) (lent_code c l (super_state c s)) s ≡ false → Found c l (suc s) m → Found c l s m
  found_keep l m s h t F j z = F j z ∙ found_past l s j h (elim (ℕ_discrete j (super_state c s)) [ yes e ↦ rw e t | no d ↦ coded_else c j (lent_code c l j) s (inr d) ])

  -- all states have been looked at
  pub found_all : (l m : List ℕ) → state_count c ≤ length m → Found c l 0 m → take (state_count c) m ≡ lent_memory c l
  unfolding lent_memory
  found_all l m n f = is_table (entry_of c l) 0 (state_count c) (take (state_count c) m) (length-take-le (state_count c) m n)
      (λ k h. let z : state_count c - 0 ≡ state_count c = omega arith in rw (zero-add k) (get_or-take (state_count c) m k 0 h ∙ rw z at (f k h)))

  -- ---- timers

  -- an array that holds the slice's values
  pub timers_held : (l ts : List ℕ) → length l ≡ lent_length c → length ts ≡ 32 → ((i : ℕ) → i < timer_count c → get_or ts i 0 ≡ get_or l (super_states_below c (state_count c) + i) 0)
      → take (timer_count c) ts ≡ drop (super_states_below c (state_count c)) l
  unfolding lent_length
  timers_held l ts e n f =
      let few = R.size.few_timers in
      let k : length (take (timer_count c) ts) ≡ timer_count c = length-take-le (timer_count c) ts (omega arith) in
      ext_get_or 0 (take (timer_count c) ts) (drop (super_states_below c (state_count c)) l) (k ∙ sym (length-drop (super_states_below c (state_count c)) l ∙ omega arith))
      (λ i h. get_or-take (timer_count c) ts i 0 (omega arith) ∙ f i (omega arith) ∙ sym (get_or-drop (super_states_below c (state_count c)) l i 0))

  -- the rows that the code looks at are the timers
  pub rows_pass : (l ts : List ℕ) (w : ℕ) → take (timer_count c) ts ≡ drop (super_states_below c (state_count c)) l
      → ((n : ℕ) → n < 64 → input_on w (suc n) ≡ paired c c.timer_pairs (suc n) (active_leaf c (lent_memory c l)))
      → every (row_passes c.scan_step c.presets w ts) 0 (timer_count c) ≡ every (timer_passes c (state_of c l)) 1 (timer_count c)
  unfolding timer_passes state_of timer_value preset_steps preset timer_runs
  rows_pass l ts w e p = ap not (some_same (λ k. not (row_passes c.scan_step c.presets w ts k)) (λ k. not (timer_passes c (state_of c l) (suc k))) 0 (timer_count c) (λ k a b. ap not (row k (omega arith)))
      ∙ sym (some_shift (λ k. not (timer_passes c (state_of c l) k)) 0 (timer_count c)))
    where
      row : (k : ℕ) → k < timer_count c → row_passes c.scan_step c.presets w ts k ≡ timer_passes c (state_of c l) (suc k)
      row k h = unfold timer_passes state_of timer_value preset_steps preset timer_runs in (
          let few = R.size.few_timers in
          let z : suc k - 1 ≡ k = omega arith in
          rw (z, ← e, get_or-take (timer_count c) ts k 0 h, p k (omega arith)))

  -- ---- 14 STATE

  pub wrong_length : (l : List ℕ) → length l ≢ lent_length c → state_passes c l ≡ false
  unfolding state_passes
  wrong_length l n = rw (ne_eqb (length l) (lent_length c) n)

  pub wrong_codes : (l : List ℕ) → every (code_passes c l) 0 (state_count c) ≡ false → state_passes c l ≡ false
  unfolding state_passes
  wrong_codes l e = rw (e, and-false (eqb (length l) (lent_length c)))

  pub right_codes : (l : List ℕ) → length l ≡ lent_length c → every (code_passes c l) 0 (state_count c) ≡ true → state_passes c l ≡ every (timer_passes c (state_of c l)) 1 (timer_count c)
  unfolding state_passes
  right_codes l n e = rw (eq-eqb (length l) (lent_length c) n, e)

  pub right_length : (l : List ℕ) → state_passes c l ≡ true → length l ≡ lent_length c
  unfolding state_passes
  right_length l e = eqb-true (length l) (lent_length c) (and_l _ _ (and_l _ _ e))

  -- what the code looks at are the codes
  pub entries_pass : (l m : List ℕ) → take (state_count c) m ≡ lent_memory c l → every (λ a. ltb (remembered m a) (state_count c)) 0 (state_count c) ≡ every (code_passes c l) 0 (state_count c)
  unfolding lent_memory
  entries_pass l m e = every_same (λ a. ltb (remembered m a) (state_count c)) (code_passes c l) (state_count c) (λ k h.
      sym (code_passes_lem l k ∙ ap (λ x. ltb x (state_count c)) (sym (sym (remembered_take m (state_count c) k h) ∙ ap (λ x. remembered x k) e ∙ remembered_table (entry_of c l) (state_count c) k h))))

  -- ---- to the slice

  -- each super-state has its place among the codes
  pub code_room : (a : ℕ) → a < state_count c → is_leaf c a ≡ false → super_states_below c a < super_states_below c (state_count c)
  unfolding super_states_below
  code_room a h e = count_past (λ b. not (is_leaf c b)) a (state_count c) h (rw e)

  -- an array of codes and one of what is remembered give the codes of the state
  pub codes_lent : (m cs : List ℕ) → CodesStand c cs → SoundMemory c (take (state_count c) m) → codes_in c cs m (state_count c) ≡ lent_codes c (take (state_count c) m) 0 (state_count c)
  codes_lent m cs k S = codes_same c cs m (take (state_count c) m) (state_count c) (λ a h. elim (which (is_leaf c a)) [
    | inl e ↦ rw e
    | inr e ↦ (let b = rw (remembered_take m (state_count c) a h) at (S.leads a e) in
        rw (e, remembered_take m (state_count c) a h, k a (remembered m a) h ((sub_state_tells c a (remembered m a)).1 b)))
  ])
