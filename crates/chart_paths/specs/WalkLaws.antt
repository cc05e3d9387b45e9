-- The memory in an array, and the walk down to the active leaf.
use Rattle.std.specs.Prelude.{◌≡◌, true, List, length, get_or, take}
use Rattle.std.proofs.Math.Path.{sym}
use Rattle.std.proofs.Common.{◌∙◌, get_or-take, ext_get_or}
use Rattle.std.proofs.Math.Logic.{inl, inr}
use Prim.Native.Nat.{ℕ, zero, suc, ◌+◌, ◌-◌, ◌≤◌, ◌<◌}
use native.Mathlib.Omega.{arith}
use borrow.Author.Tests.{eq-eqb, ne_eqb}
use Rattle.meaning.specs.Rows.{table}
use Rattle.meaning.proofs.Laws.Rows.{which, length_table, get_d_table}
use Rattle.meaning.specs.Tables.{Tables, most_depth, state_count}
use Rattle.meaning.specs.Hierarchy.{depth, is_leaf}
use Rattle.meaning.specs.Rules.{Rules}
use Rattle.meaning.proofs.Laws.Tree.{shallow}
use Rattle.meaning.proofs.Laws.Follow.{Leads, stays_at_leaf, descends, super_known, depth_below, follow_same, follow_known}
use Rattle.meaning.specs.Machine.{remembered, descend, follow, active_leaf}
use Rattle.meaning.proofs.Laws.Machine.{SoundMemory}
use Rattle.chart_paths.specs.Walk.{walk}

-- ---- parts of an array

pub remembered_take : (m : List ℕ) (n a : ℕ) → a < n → remembered (take n m) a ≡ remembered m a
unfolding remembered
remembered_take m n a h = get_or-take n m a 0 h

-- a list that agrees with a table of entries is that table
pub is_table : (f : ℕ → ℕ) (i n : ℕ) (l : List ℕ) → length l ≡ n → ((k : ℕ) → k < n → get_or l k 0 ≡ f (i + k)) → l ≡ table f i n
is_table f i n l e h = ext_get_or 0 l (table f i n) (e ∙ sym (length_table f i n)) (λ k z. h k (omega (arith, e)) ∙ sym (get_d_table f i n k 0 (omega (arith, e))))

-- ---- down to the active leaf

module _ (c : Tables) (R : Rules c) where
  -- where leaves, and only they, are led to 0, the walk that ends at 0 is the way down to the leaf
  pub walk_follow : (g : ℕ → ℕ) → Leads c g → ((a : ℕ) → a < state_count c → is_leaf c a ≡ true → g a ≡ 0)
      → (k s : ℕ) → s < state_count c → most_depth ≤ k + depth c s → walk g k s ≡ follow c g s
  unfolding walk follow descend
  walk_follow g W z zero s h e = let d : most_depth - depth c s ≡ 0 = omega arith in rw d
  walk_follow g W z (suc k) s h e = elim (which (is_leaf c s)) [
    | inl f ↦ rw (walk, eq-eqb (g s) 0 (z s h f)) (sym (stays_at_leaf c g (most_depth - depth c s) s f))
    | inr f ↦ (let b = W s f in let d = depth_below c R s (g s) b in let v = shallow c R (g s) in
        let w : most_depth - depth c s ≡ suc (most_depth - depth c (g s)) = omega arith in
        rw (walk, ne_eqb (g s) 0 b.not_root, w, descends c g (most_depth - depth c (g s)) s f) (walk_follow g W z k (g s) b.known (omega arith)))
  ]

  -- a memory in the front of an array
  module _ (m : List ℕ) (S : SoundMemory c (take (state_count c) m)) where
    pub array_leads : Leads c (remembered m)
    array_leads s e = rw (← remembered_take m (state_count c) s (super_known c R s e)) (S.leads s e)

    pub array_zero : (a : ℕ) → a < state_count c → is_leaf c a ≡ true → remembered m a ≡ 0
    array_zero a h e = sym (remembered_take m (state_count c) a h) ∙ S.leaf_entries a h e

    pub walk_active : walk (remembered m) most_depth 0 ≡ active_leaf c (take (state_count c) m)
    unfolding active_leaf
    walk_active =
        walk_follow (remembered m) array_leads array_zero most_depth 0 R.size.some_state (omega arith)
        ∙ follow_same c R (remembered m) array_leads (remembered (take (state_count c) m)) 0 (λ a e p q. sym (remembered_take m (state_count c) a (super_known c R a e)))

    pub leaf_known : active_leaf c (take (state_count c) m) < state_count c
    unfolding active_leaf
    leaf_known = follow_known c R _ S.leads 0 R.size.some_state
