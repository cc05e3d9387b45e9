-- What the stores of a move make of a memory in the front of an array.
use Rattle.std.specs.Prelude.{◌≡◌, ◌≢◌, Bool, ◌&&◌, List, length, set, take, eqb}
use Rattle.std.proofs.Math.Path.{refl, sym, ap}
use Rattle.std.proofs.Common.{◌∙◌, zero-add, length-take-le}
use Rattle.std.proofs.Math.Logic.{inl, inr}
use Prim.Native.Nat.{ℕ, zero, suc, ◌+◌, ◌-◌, ◌≤◌, ◌<◌}
use native.Mathlib.Omega.{arith}
use Rattle.std.proofs.Math.Decide.{ℕ_discrete}
use Rattle.std.proofs.Math.Bool.{true, false, cond}
use Rattle.std.proofs.Math.ListN.{length-set}
use Rattle.std.proofs.Math.Seq.{get_or-set_same, get_or-set_other, get_or-take}
use borrow.Author.Tests.{eq-eqb, ne_eqb}
use Rattle.meaning.proofs.Laws.Rows.{which, and_l, and_r, and_both, same_test, false_by}
use Rattle.meaning.specs.Tables.{Tables, most_depth, state_count, move_count, super_state, initial, target, mark}
use Rattle.meaning.specs.Hierarchy.{depth, at_or_above, above, on_the_way, is_leaf}
use Rattle.meaning.specs.Rules.{Rules}
use Rattle.meaning.proofs.Laws.Tree.{depth_root, depth_sub, depth_zero, shallow, super_lt, over_yes, yes_over, above_yes, yes_above, over_le, over_lt, over_refl, over_trans, over_down, over_same, over_super, way_over, way_sub, initial_leaf}
use Rattle.meaning.proofs.Laws.Follow.{Leads, stays_at_leaf, descends, depth_below, over_below, over_descend, initial_leads}
use Rattle.meaning.specs.Machine.{remembered, descend, follow, leads_below, reached, remembers_after, memory_after_move}
use Rattle.meaning.proofs.Laws.Machine.{target_known}
use Rattle.chart_moving.specs.Moves.{set_above, set_below}
use Rattle.chart_paths.specs.WalkLaws.{remembered_take, is_table}

pub length_above : (c : Tables) (k s : ℕ) (m : List ℕ) → length (set_above c k s m) ≡ length m
unfolding set_above
length_above c zero s m = refl
length_above c (suc k) s m = elim (which (eqb s 0)) [
  | inl e ↦ rw (set_above, e)
  | inr e ↦ rw (set_above, e, length_above c k (super_state c s) (set m (super_state c s) s)) (length-set m (super_state c s) s)
]

pub length_below : (g : ℕ → ℕ) (k s : ℕ) (m : List ℕ) → length (set_below g k s m) ≡ length m
unfolding set_below
length_below g zero s m = refl
length_below g (suc k) s m = elim (which (eqb (g s) 0)) [
  | inl e ↦ rw (set_below, e) (length-set m s (g s))
  | inr e ↦ rw (set_below, e, length_below g k (g s) (set m s (g s))) (length-set m s (g s))
]

module _ (c : Tables) (R : Rules c) where
  -- ---- above the target

  -- nothing is above the root
  none_above : (a : ℕ) → above c a 0 ≡ false
  none_above a = false_by (above c a 0) (λ e. let p = above_yes c R a 0 e in
      p.1 (depth_zero c R a (let h = over_le c R a 0 p.0 in omega (arith, depth_root c R))))

  -- what is above a state is its super-state or above that
  above_super : (a s : ℕ) → s ≢ 0 → a ≢ super_state c s → above c a s ≡ above c a (super_state c s)
  above_super a s n d = same_test _ _
      (λ e. let p = above_yes c R a s e in
      yes_above c R a (super_state c s) (over_down c R a (super_state c s) s (over_super c R s n) p.0 (omega (arith, depth_sub c R s n, over_lt c R a s p.0 p.1))) d)
      (λ e. let p = above_yes c R a (super_state c s) e in
      yes_above c R a s (over_trans c R a (super_state c s) s p.0 (over_super c R s n))
      (λ z. omega (arith, ap (depth c) z, depth_sub c R s n, over_lt c R a (super_state c s) p.0 p.1)))

  -- the same, one level up
  one_up : (s a : ℕ) (m : List ℕ) → s ≢ 0 → s < length m
      → cond (above c a (super_state c s)) (on_the_way c a (super_state c s)) (remembered (set m (super_state c s) s) a) ≡ cond (above c a s) (on_the_way c a s) (remembered m a)
  unfolding remembered
  one_up s a m n f =
      let lt = super_lt c R s n in
      elim (ℕ_discrete a (super_state c s)) [
        | yes e ↦ (let i : above c a (super_state c s) ≡ false = false_by _ (λ z. (above_yes c R a (super_state c s) z).1 e) in
            let j : above c a s ≡ true = rw e (yes_above c R (super_state c s) s (over_super c R s n) (λ z. omega (arith, z))) in
            rw (i, j, e, get_or-set_same m (super_state c s) s 0 (omega arith)) (sym (way_sub c R (super_state c s) s s (depth_sub c R s n) (over_refl c R s))))
        | no x ↦ rw (above_super a s n x) (elim (which (above c a (super_state c s))) [
          | inl e ↦ (let q = above_yes c R a (super_state c s) e in rw e (sym (way_over c R a (super_state c s) s q.0 q.1 (over_super c R s n))))
          | inr e ↦ rw e (get_or-set_other m (super_state c s) a s 0 x)
        ])
      ]

  pub set_above_lem : (k s a : ℕ) (m : List ℕ) → depth c s ≤ k → s < length m
      → remembered (set_above c k s m) a ≡ cond (above c a s) (on_the_way c a s) (remembered m a)
  unfolding set_above
  set_above_lem zero s a m h f = let e = depth_zero c R s (omega arith) in rw (e, none_above a)
  set_above_lem (suc k) s a m h f = elim (ℕ_discrete s 0) [
    | yes e ↦ rw (set_above, e, none_above a)
    | no n ↦ rw (set_above, ne_eqb s 0 n)
        (set_above_lem k (super_state c s) a (set m (super_state c s) s) (omega (arith, depth_sub c R s n)) (rw length-set (omega (arith, super_lt c R s n))) ∙ one_up s a m n f)
  ]

  -- ---- from the target down

  module _ (g : ℕ → ℕ) (W : Leads c g) (z : (a : ℕ) → a < state_count c → is_leaf c a ≡ true → g a ≡ 0) where
    -- a is on the way from s to the state k levels below it
    between : ℕ → ℕ → ℕ → Bool
    between k s a = at_or_above c s a && at_or_above c a (descend c g k s)

    -- on the way from s: s itself, or on the way from the sub-state below it
    one_down : (k s a : ℕ) (m : List ℕ) → is_leaf c s ≡ false → s < length m
        → cond (between k (g s) a) (g a) (remembered (set m s (g s)) a) ≡ cond (between (suc k) s a) (g a) (remembered m a)
    unfolding remembered between
    one_down k s a m e h =
        let b = W s e in
        let D = over_descend c R g W k (g s) in
        let d = depth_below c R s (g s) b in
        rw (descends c g k s e) (elim (ℕ_discrete a s) [
          | yes x ↦ (let i : between k (g s) a ≡ false = false_by _ (λ y. omega (arith, over_le c R (g s) a (over_yes c R (g s) a (and_l _ _ y)), ap (depth c) x)) in
              let j : (at_or_above c s a && at_or_above c a (descend c g k (g s))) ≡ true =
              rw x (and_both _ _ (yes_over c R s s (over_refl c R s)) (yes_over c R s _ (over_trans c R s (g s) _ (over_below c R s (g s) b) D))) in
              rw (i, j, x, get_or-set_same m s (g s) 0 h))
          | no x ↦ (let i : between k (g s) a ≡ (at_or_above c s a && at_or_above c a (descend c g k (g s))) = same_test _ _
              (λ y. and_both _ _ (yes_over c R s a (over_trans c R s (g s) a (over_below c R s (g s) b) (over_yes c R (g s) a (and_l _ _ y)))) (and_r (at_or_above c (g s) a) _ y))
              (λ y. let p = over_yes c R s a (and_l _ _ y) in let q = over_yes c R a _ (and_r (at_or_above c s a) _ y) in
              and_both _ _ (yes_over c R (g s) a (over_down c R (g s) a _ q D (omega (arith, over_lt c R s a p (λ v. x (sym v)))))) (and_r (at_or_above c s a) _ y)) in
              rw (i, get_or-set_other m s a (g s) 0 x))
        ])

    at_leaf : (k s a : ℕ) (m : List ℕ) → is_leaf c s ≡ true → s < length m → remembered (set m s (g s)) a ≡ cond (between k s a) (g a) (remembered m a)
    unfolding remembered between
    at_leaf k s a m e h = rw (stays_at_leaf c g k s e) (elim (ℕ_discrete a s) [
      | yes x ↦ (let j : (at_or_above c s a && at_or_above c a s) ≡ true = rw x (and_both _ _ (yes_over c R s s (over_refl c R s)) (yes_over c R s s (over_refl c R s))) in
          rw (j, x, get_or-set_same m s (g s) 0 h))
      | no x ↦ (let j : (at_or_above c s a && at_or_above c a s) ≡ false = false_by _ (λ y. x (over_same c R a s (over_yes c R a s (and_r (at_or_above c s a) _ y)) (over_yes c R s a (and_l _ _ y)))) in
          rw (j, get_or-set_other m s a (g s) 0 x))
    ])

    set_between : (k s a : ℕ) (m : List ℕ) → most_depth ≤ k + depth c s → s < state_count c → state_count c ≤ length m
        → remembered (set_below g (suc k) s m) a ≡ cond (between k s a) (g a) (remembered m a)
    unfolding set_below
    set_between zero s a m h i v = elim (which (is_leaf c s)) [
      | inl e ↦ rw (set_below, eq-eqb (g s) 0 (z s i e)) (at_leaf 0 s a m e (omega arith))
      | inr e ↦ absurd (omega (arith, depth_below c R s (g s) (W s e), shallow c R (g s)))
    ]
    set_between (suc k) s a m h i v = elim (which (is_leaf c s)) [
      | inl e ↦ rw (set_below, eq-eqb (g s) 0 (z s i e)) (at_leaf (suc k) s a m e (omega arith))
      | inr e ↦ (let b = W s e in
          rw (set_below, ne_eqb (g s) 0 b.not_root)
          (set_between k (g s) a (set m s (g s)) (omega (arith, depth_below c R s (g s) b)) b.known (rw length-set v) ∙ one_down k s a m e (omega arith)))
    ]

    -- more levels than there are lead no further
    enough : (k s : ℕ) → most_depth ≤ k + depth c s → descend c g k s ≡ follow c g s
    unfolding follow descend
    enough zero s h = let e : most_depth - depth c s ≡ 0 = omega arith in rw e
    enough (suc k) s h = elim (which (is_leaf c s)) [
      | inl e ↦ stays_at_leaf c g (suc k) s e ∙ sym (stays_at_leaf c g (most_depth - depth c s) s e)
      | inr e ↦ (let d = depth_below c R s (g s) (W s e) in let v = shallow c R (g s) in
          let w : most_depth - depth c s ≡ suc (most_depth - depth c (g s)) = omega arith in
          rw (w, descends c g k s e, descends c g (most_depth - depth c (g s)) s e) (enough k (g s) (omega arith)))
    ]

    pub set_below_lem : (s a : ℕ) (m : List ℕ) → s < state_count c → state_count c ≤ length m
        → remembered (set_below g (suc most_depth) s m) a ≡ cond (reached c g s a) (g a) (remembered m a)
    unfolding reached between
    set_below_lem s a m h v = set_between most_depth s a m (omega arith) h v ∙ rw (enough most_depth s (omega arith))

  -- ---- a move

  -- mark 1 sets nothing at or below the target
  stays_led : (k : ℕ) → k ≢ 0 → (m : ℕ → ℕ) (b : Bool) (a : ℕ) → cond b (leads_below c k m a) (m a) ≡ m a
  unfolding leads_below
  stays_led zero n m b a = absurd (n refl)
  stays_led (suc k) n m true a = refl
  stays_led (suc k) n m false a = refl

  module _ (m : List ℕ) (long : state_count c ≤ length m) (i : ℕ) (h : i < move_count c) where
    abbrev old : ℕ → ℕ
    old = remembered (take (state_count c) m)

    above_set : (a : ℕ) → remembered (set_above c most_depth (target c i) m) a ≡ cond (above c a (target c i)) (on_the_way c a (target c i)) (remembered m a)
    above_set a = set_above_lem most_depth (target c i) a m (shallow c R (target c i)) (omega (arith, target_known c R i h))

    -- the front of an array that holds what a move leaves
    is_moved : (l : List ℕ) → length l ≡ length m
        → ((a : ℕ) → a < state_count c → remembered l a ≡ remembers_after c (leads_below c (mark c i) old) old (target c i) a)
        → take (state_count c) l ≡ memory_after_move c i (take (state_count c) m)
    unfolding memory_after_move remembered
    is_moved l e f = is_table _ 0 (state_count c) (take (state_count c) l) (length-take-le (state_count c) l (omega (arith, e))) (λ a z. rw (zero-add, get_or-take (state_count c) l a 0 z) (f a z))

    -- mark 1: "nothing at or below the target is set"
    pub moved_history : mark c i ≢ 0 → take (state_count c) (set_above c most_depth (target c i) m) ≡ memory_after_move c i (take (state_count c) m)
    unfolding remembers_after
    moved_history n = is_moved _ (length_above c most_depth (target c i) m) (λ a z. above_set a ∙ sym (ap (cond (above c a (target c i)) (on_the_way c a (target c i)))
        (stays_led (mark c i) n old (reached c (leads_below c (mark c i) old) (target c i) a) a ∙ remembered_take m (state_count c) a z)))

    -- mark 0: "the target, if a super-state, and those reached below it by initial sub-states are set to initial"
    pub moved_plain : mark c i ≡ 0
        → take (state_count c) (set_below (initial c) (suc most_depth) (target c i) (set_above c most_depth (target c i) m)) ≡ memory_after_move c i (take (state_count c) m)
    unfolding remembers_after leads_below
    moved_plain e = is_moved _ (length_below (initial c) (suc most_depth) (target c i) _ ∙ length_above c most_depth (target c i) m) (λ a z.
        set_below_lem (initial c) (initial_leads c R) (initial_leaf c R) (target c i) a _ (target_known c R i h) (rw (length_above c most_depth (target c i) m) long)
        ∙ rw (e, remembered_take m (state_count c) a z, above_set a) (apart a))
      where
        apart : (a : ℕ) → cond (reached c (initial c) (target c i) a) (initial c a) (cond (above c a (target c i)) (on_the_way c a (target c i)) (remembered m a))
            ≡ cond (above c a (target c i)) (on_the_way c a (target c i)) (cond (reached c (initial c) (target c i) a) (initial c a) (remembered m a))
        apart a = elim (which (above c a (target c i))) [
          | inl f ↦ (let p = above_yes c R a (target c i) f in
              let n : reached c (initial c) (target c i) a ≡ false = unfold reached in (false_by _ (λ y. p.1 (over_same c R a (target c i) p.0 (over_yes c R (target c i) a (and_l _ _ y))))) in
              rw (f, n))
          | inr f ↦ rw f
        ]
