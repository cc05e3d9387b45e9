-- Following the flip-flops from the root, one level at a time.
use Rattle.std.specs.Prelude.{◌≡◌, ◌≢◌, ℕ, suc, ◌+◌, ◌*◌, ◌-◌, ◌≤◌, ◌<◌, Bool, true, false, cond, List}
use Rattle.std.proofs.Common.{inl, inr, arith, lt_of_lt_of_le, pow_mono}
use Rattle.std.proofs.Math.Decide.{dec_le}
use Rattle.std.proofs.Math.ListN.{get_or-eq_default}
use Rattle.meaning.specs.Rows.{table, count}
use Rattle.meaning.proofs.Laws.Rows.{which, least_to, count_le}
use Rattle.meaning.specs.Tables.{Tables, state_count, initial}
use Rattle.meaning.specs.Hierarchy.{sub_state, sub_states, is_leaf}
use Rattle.meaning.specs.Layout.{group_width, group_first}
use Rattle.meaning.specs.Rules.{Rules}
use Rattle.meaning.proofs.Laws.Tree.{depth_root, initial_leaf, initial_sub}
use Rattle.meaning.proofs.Laws.Follow.{stays_at_leaf, descends, super_known}
use Rattle.meaning.proofs.Laws.Layout.{code_at_lt}
use Rattle.meaning.specs.Machine.{descend, follow, word_of}
use Rattle.meaning.specs.Scan.{flip_flop_on}
use Rattle.meaning.specs.Lent.{coded}
use Rattle.meaning.specs.Stands.{code_at, coded_sub_state, coded_leaf}
use Rattle.layout.specs.LaidLaws.{width_small}

-- ---- codes

-- a code of no more than 8 bits fits a byte
pub code_small : (fs : List ℕ) (o w : ℕ) → w ≤ 8 → code_at fs o w < 256
code_small fs o w h = lt_of_lt_of_le (code_at_lt fs o w) (pow_mono h)

-- one flip-flop more, below those before
pub code_more : (fs : List ℕ) (o i w k : ℕ) → 0 < i → i ≤ w → k ≡ code_at fs (o + i) (w - i) → (b : Bool) → flip_flop_on fs (o + (i - 1)) ≡ b → cond b 1 0 + 2 * k ≡ code_at fs (o + (i - 1)) (w - (i - 1))
unfolding code_at word_of table
code_more fs o i w k h l e b f =
    let z : w - (i - 1) ≡ suc (w - i) = omega arith in
    let y : suc (o + (i - 1)) ≡ o + i = omega arith in
    rw (z, y, f, e)

-- ---- the walk

module _ (c : Tables) (R : Rules c) where
  pub group_narrow : (a : ℕ) → group_width c a ≤ 8
  unfolding group_width sub_states
  group_narrow a = width_small (count (sub_state c a) (state_count c)) (omega (arith, count_le (sub_state c a) (state_count c), R.size.few_states))

  -- past the states everything is 0, and a leaf
  pub initial_none : (s : ℕ) → initial c s ≡ 0 → is_leaf c s ≡ true
  initial_none s e = elim (which (is_leaf c s)) [ inl f ↦ f | inr f ↦ absurd ((initial_sub c R s (super_known c R s f) f).not_root e) ]

  pub initial_some : (s : ℕ) → initial c s ≢ 0 → (is_leaf c s ≡ false) × (s < state_count c)
  initial_some s n = elim (which (is_leaf c s)) [
    | inr f ↦ (f, super_known c R s f)
    | inl f ↦ absurd (elim (dec_le (suc s) (state_count c)) [ yes h ↦ n (initial_leaf c R s h f) | no h ↦ n (far s h) ])
  ]
    where
      far : (s : ℕ) → (suc s ≤ state_count c → ⊥) → initial c s ≡ 0
      far s h = unfold initial state_count in (get_or-eq_default c.states 0 {n = 2 * s + 1} (omega arith))

  module _ (fs : List ℕ) where
    pub sub_most : (a : ℕ) → coded_sub_state c fs a ≤ 256
    unfolding coded_sub_state
    sub_most a = omega (arith, least_to (coded c a (code_at fs (group_first c a) (group_width c a))) 0 (state_count c), R.size.few_states)

    pub shown_start : descend c (coded_sub_state c fs) 8 0 ≡ coded_leaf c fs
    unfolding coded_leaf follow
    shown_start = rw (depth_root c)

    -- the walk stops at a leaf
    pub shown_stops : (k s : ℕ) → initial c s ≡ 0 → descend c (coded_sub_state c fs) k s ≡ s
    shown_stops k s e = stays_at_leaf c (coded_sub_state c fs) k s (initial_none s e)

    -- or goes on
    pub shown_goes : (k s : ℕ) → initial c s ≢ 0 → descend c (coded_sub_state c fs) (suc k) s ≡ descend c (coded_sub_state c fs) k (coded_sub_state c fs s)
    shown_goes k s n = descends c (coded_sub_state c fs) k s (initial_some s n).0
