-- What a layout says of a group, in a chart that keeps the rules.
use Rattle.std.specs.Prelude.{◌≡◌, refl, ◌≢◌, List, length, get_or, set}
use Rattle.std.proofs.Common.{sym, ap, ◌∙◌, get_or-set_same, get_or-set_other}
use Prim.Native.Nat.{ℕ, zero, suc, ◌+◌, ◌-◌, ◌≤◌, ◌<◌}
use native.Mathlib.Omega.{arith}
use Rattle.std.proofs.Math.Decide.{dec_le, ℕ_discrete}
use Rattle.meaning.specs.Tables.{Tables, state_count, super_state}
use Rattle.meaning.specs.Hierarchy.{up, depth}
use Rattle.meaning.proofs.Laws.Hierarchy.{sub_state_tells}
use Rattle.meaning.proofs.Laws.Layout.{group_fits}
use Rattle.meaning.specs.Rules.{SubState, Rules}
use Rattle.meaning.proofs.Laws.Tree.{super_lt, depth_sub, depth_root, depth_up, up_le}
use Rattle.meaning.proofs.Laws.Tests.{sub_of_super}
use Rattle.meaning.specs.Written.{bits_from, group_bits}
use Rattle.layout.specs.Laid.{LaidOut}
use Rattle.layout.specs.LaidLaws.{first_at, width_at, code_at_lem, total_is}
use Rattle.layout.specs.declared.Layout.{Layout}
use Rattle.write_operators.specs.declared.Way.{Way}
use Rattle.write_operators.specs.declared.Way.TheVariants.{First, More, Store}
use Rattle.write_bits.specs.Sent.{bit_at, Rises}
use Rattle.write_operators.specs.Ways.{base_of}

base_most : (total : ℕ) (y : Way) → base_of total y ≤ total
base_most total First = omega arith
base_most total More = omega arith
base_most total Store = omega arith

module _ (c : Tables) (l : Layout) (o : LaidOut c l) (R : Rules c) where
  pub total_few : l.total ≤ 128
  total_few = omega (arith, total_is c l o R.size.few_states, R.flip_flop.few)

  module _ (a s : ℕ) (h : SubState c a s) where
    pub group_known : (a < s) × (s < 256)
    group_known =
        let k = super_lt c R s h.not_root in
        (omega (arith, h.under), omega (arith, h.known, R.size.few_states))

    super_known : a < state_count c
    super_known = omega (arith, group_known.0, h.known)

    pub group_is : (y : Way) →
        (base_of l.total y + (get_or l.first a 0 + get_or l.width a 0) ≤ 65536)
        × (bits_from (bit_at (base_of l.total y)) (get_or l.first a 0) (get_or l.width a 0) (get_or l.code s 0) ≡ group_bits c (bit_at (base_of l.total y)) a s)
    unfolding group_bits
    group_is y =
        let f = R.size.few_states in
        let p = first_at c l o f a super_known in
        let q = width_at c l o f a super_known in (
          omega (arith, base_most l.total y, total_few, group_fits c a super_known, R.flip_flop.few),
          rw (p, q, code_at_lem c l o f a s super_known ((sub_state_tells c a s).1 h)),
        )

-- what is below the root is a sub-state of its super-state, one level deeper
pub level_down : (c : Tables) (R : Rules c) (k s : ℕ) → s < state_count c → suc k ≡ depth c s →
    SubState c (super_state c s) s × (super_state c s < state_count c) × (k ≡ depth c (super_state c s))
level_down c R k s h e =
    let n : s ≢ 0 = (λ z. omega (arith, ap (depth c) z, depth_root c R)) in
    let p = super_lt c R s n in
    (sub_of_super c R s h n, omega arith, omega (arith, depth_sub c R s n))

module _ (c : Tables) (R : Rules c) (s : ℕ) where
  -- as many levels up as s is deep stands the root
  pub root_below : (k : ℕ) → depth c s < k → ((j : ℕ) → j < k → up c j s ≢ 0) → ⊥
  root_below k h n =
      let d = depth c s in
      omega (arith, depth_up c R d s, depth_sub c R (up c d s) (n d h))

  pub risen_depth : (k : ℕ) → up c k s ≡ 0 → ((j : ℕ) → j < k → up c j s ≢ 0) → k ≡ depth c s
  risen_depth k e n = elim (dec_le k (depth c s)) [
    | yes h ↦ omega (arith, depth_up c R k s, ap (depth c) e, depth_root c R)
    | no h ↦ absurd (root_below k (omega arith) n)
  ]

  -- one level of a path
  pub path_up : (k : ℕ) → s < state_count c → 1 ≤ k → k ≤ depth c s → SubState c (up c k s) (up c (k - 1) s) × (up c k s ≡ super_state c (up c (k - 1) s))
  unfolding up
  path_up zero h z l = absurd (omega arith)
  path_up (suc k) h z l =
      let e : suc k - 1 ≡ k = omega arith in
      let d = depth c s - suc k in
      rw e ((level_down c R d (up c k s) (omega (arith, up_le c R k s)) (omega (arith, depth_up c R k s))).0, refl)

-- one state further up
module _ (c : Tables) (s : ℕ) (ps : List ℕ) (k t : ℕ) where
  pub risen_path : k < length ps → Rises c s ps k t → (j : ℕ) → j ≤ k → get_or (set ps k t) j 0 ≡ up c j s
  risen_path l r j h = elim (ℕ_discrete j k) [
    | yes e ↦ rw e (get_or-set_same ps k t 0 l ∙ r.0)
    | no n ↦ get_or-set_other ps k j t 0 n ∙ (r.1 j (omega arith)).0
  ]

  pub risen_more : Rises c s ps k t → t ≢ 0 → (j : ℕ) → j ≤ k → up c j s ≢ 0
  risen_more r n j h = elim (ℕ_discrete j k) [
    | yes e ↦ (λ z. n (r.0 ∙ ap (λ i. up c i s) (sym e) ∙ z))
    | no m ↦ (r.1 j (omega arith)).1
  ]
