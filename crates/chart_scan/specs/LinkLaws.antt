-- The moves from one state, linked.
use Rattle.std.specs.Prelude.{◌≡◌, true, ◌&&◌, get_or, Option, Some, None}
use Rattle.std.proofs.Math.Path.{refl, sym, ap}
use Rattle.std.proofs.Common.{◌∙◌, get_or-set_same}
use Rattle.std.proofs.Math.Logic.{inl, inr}
use Prim.Native.Nat.{ℕ, zero, suc, ◌+◌, ◌-◌, ◌≤◌, ◌<◌}
use native.Mathlib.Omega.{arith}
use Rattle.std.proofs.Math.Decide.{ℕ_discrete}
use Rattle.std.proofs.Math.Bool.{false}
use mathlib.Core.List.{List}
use Rattle.std.proofs.Math.ListN.{length, set, length-set}
use Rattle.std.proofs.Math.Seq.{get_or-set_other}
use Rattle.std.proofs.Math.Dec.{eqb}
use borrow.Author.Tests.{eq-eqb, ne_eqb, eqb-true}
use Rattle.meaning.proofs.Laws.Rows.{which, and_l, and_r, and_both, some_intro, some_yes}
use Rattle.meaning.specs.Tables.{Tables, most_states, move_count, source}
use Rattle.meaning.specs.Hierarchy.{up, depth, at_or_above}
use Rattle.meaning.proofs.Laws.Tree.{depth_root, depth_zero, depth_up}
use Rattle.meaning.specs.Literals.{Setting, literals_hold}
use Rattle.meaning.specs.Rules.{Rules}
use Rattle.meaning.specs.Machine.{enabled, chosen}
use Rattle.meaning.proofs.Laws.Overlap.{enabled_chosen, none_chosen}
use Rattle.chart_scan.specs.Choice.{last_from, last_holding, LinkedTo, move_of, MoveIs}

pub source_known : (c : Tables) → Rules c → (i : ℕ) → i < move_count c → source c i < most_states
unfolding source
source_known c R i h = let r = (R.moves i h).from_known in rw r.1 (omega (arith, r.2, R.size.few_states))

-- above the root there is only the root
pub root_stays : (c : Tables) → Rules c → (k m l : ℕ) → up c k l ≡ 0 → k ≤ m → up c m l ≡ 0
root_stays c R k m l e h = depth_zero c R (up c m l) (depth_up c R m l ∙ (let z : depth c l - k ≡ 0 = sym (depth_up c R k l) ∙ ap (depth c) e ∙ depth_root c R in omega arith))

-- a move, if there is one, by its number
pub move_of_is : (c : Tables) (x : ℕ) (r : Option ℕ) → MoveIs c x r → move_of c r ≡ x
move_of_is c x None e = sym e
move_of_is c x (Some i) e = e.1

module _ (c : Tables) where
  pub last_le : (s n : ℕ) → last_from c s n ≤ n
  unfolding last_from
  last_le s zero = omega arith
  last_le s (suc n) = elim (which (eqb (source c n) s)) [ inl e ↦ rw (last_from, e) (omega arith) | inr e ↦ rw (last_from, e) (omega (arith, last_le s n)) ]

  -- the last from a state is from it
  pub last_source : (s n i : ℕ) → last_from c s n ≡ suc i → source c i ≡ s
  unfolding last_from
  last_source s zero i e = absurd (omega arith)
  last_source s (suc n) i e = elim (which (eqb (source c n) s)) [
    | inl f ↦ (let z : suc n ≡ suc i = rw (last_from, f) at e in let y : n ≡ i = omega arith in rw (← y) (eqb-true (source c n) s f))
    | inr f ↦ last_source s n i (rw (last_from, f) at e)
  ]

  -- the link behind a move
  pub next_link : (n : ℕ) (l : List ℕ) → LinkedTo c n l → (s i : ℕ) → i < n → source c i ≡ s → get_or l (256 + i) 0 ≡ last_from c s i
  next_link n l f s i h e = rw (← e) (f.1 i h)

  -- one move more
  pub linked_more : (n : ℕ) (l : List ℕ) → n < 512 → 768 ≤ length l → source c n < 256 → LinkedTo c n l
      → LinkedTo c (suc n) (set (set l (256 + n) (get_or l (source c n) 0)) (source c n) (suc n))
  unfolding last_from
  linked_more n l h long k f =
      let m : List ℕ = set l (256 + n) (get_or l (source c n) 0) in
      let k' : length m ≡ length l = length-set l (256 + n) (get_or l (source c n) 0) in (
        λ s a. elim (ℕ_discrete s (source c n)) [
          | yes e ↦ rw (e, last_from, eq-eqb (source c n) (source c n) refl) (get_or-set_same m (source c n) (suc n) 0 (omega (arith, k')))
          | no d ↦ rw (last_from, ne_eqb (source c n) s (λ z. d (sym z))) (get_or-set_other m (source c n) s (suc n) 0 d ∙ get_or-set_other l (256 + n) s (get_or l (source c n) 0) 0 (λ z. omega arith) ∙ f.0 s a)
        ],
        λ j a. get_or-set_other m (source c n) (256 + j) (suc n) 0 (λ z. omega arith) ∙ elim (ℕ_discrete j n) [
          | yes e ↦ rw e (get_or-set_same l (256 + n) (get_or l (source c n) 0) 0 (omega arith) ∙ f.0 (source c n) k)
          | no d ↦ get_or-set_other l (256 + n) (256 + j) (get_or l (source c n) 0) 0 (λ z. d (omega arith)) ∙ f.1 j (omega arith)
        ],
      )

  -- ---- along the links

  module _ (v : Setting) where
    -- what is not from the state does not count
    pub holding_skip : (s n : ℕ) → last_holding c v s n ≡ last_holding c v s (last_from c s n)
    unfolding last_from last_holding
    holding_skip s zero = refl
    holding_skip s (suc n) = elim (which (eqb (source c n) s)) [
      | inl e ↦ (let z : last_from c s (suc n) ≡ suc n = rw (last_from, e) in ap (last_holding c v s) (sym z))
      | inr e ↦ rw (last_from, last_holding, e) (holding_skip s n)
    ]

    pub holding_yes : (s i : ℕ) → source c i ≡ s → literals_hold c v i ≡ true → last_holding c v s (suc i) ≡ suc i
    unfolding last_holding
    holding_yes s i e f = rw (last_holding, eq-eqb (source c i) s e, f)

    pub holding_no : (s i : ℕ) → source c i ≡ s → literals_hold c v i ≡ false → last_holding c v s (suc i) ≡ last_holding c v s (last_from c s i)
    unfolding last_holding
    holding_no s i e f = rw (last_holding, eq-eqb (source c i) s e, f) (holding_skip s i)

    -- one that is found is from the state, and holds
    pub found : (s n i : ℕ) → last_holding c v s n ≡ suc i → (i < n) × (source c i ≡ s) × (literals_hold c v i ≡ true)
    unfolding last_holding
    found s zero i e = absurd (omega arith)
    found s (suc n) i e = elim (which (eqb (source c n) s && literals_hold c v n)) [
      | inl f ↦ (let z : suc n ≡ suc i = rw (last_holding, f) at e in let y : n ≡ i = omega arith in
          (omega arith, rw (← y) (eqb-true (source c n) s (and_l _ _ f)), rw (← y) (and_r (eqb (source c n) s) _ f)))
      | inr f ↦ (let r = found s n i (rw (last_holding, f) at e) in (omega (arith, r.0), r.1, r.2))
    ]

    -- with none found none holds
    pub none_found : (s n i : ℕ) → last_holding c v s n ≡ 0 → i < n → source c i ≡ s → literals_hold c v i ≡ false
    unfolding last_holding
    none_found s zero i e h k = absurd (omega arith)
    none_found s (suc n) i e h k = elim (which (eqb (source c n) s && literals_hold c v n)) [
      | inl f ↦ (let z : suc n ≡ 0 = rw (last_holding, f) at e in absurd (omega arith))
      | inr f ↦ elim (ℕ_discrete i n) [
        | yes x ↦ (let g : (true && literals_hold c v i) ≡ false = rw (← x, eq-eqb (source c i) s k) at f in g)
        | no x ↦ none_found s n i (rw (last_holding, f) at e) (omega arith) k
      ]
    ]

    -- ---- up the path

    pub found_chosen : Rules c → (l k i : ℕ) → k < 9 → last_holding c v (up c k l) (move_count c) ≡ suc i → i ≡ chosen c v l
    unfolding enabled at_or_above
    found_chosen R l k i h e = let r = found (up c k l) (move_count c) i e in
        sym (enabled_chosen c R v l i r.0 (and_both _ _ (some_intro (λ j. eqb (up c j l) (source c i)) 0 9 k (omega arith) (omega arith) (eq-eqb _ _ (sym r.1))) r.2))

    pub none_on_path : (l : ℕ) → ((k : ℕ) → k < 9 → last_holding c v (up c k l) (move_count c) ≡ 0) → move_count c ≡ chosen c v l
    unfolding enabled at_or_above
    none_on_path l f = sym (none_chosen c v l (λ i h. elim (which (at_or_above c (source c i) l)) [
      | inl e ↦ (let r = some_yes (λ j. eqb (up c j l) (source c i)) 0 9 e in
          ap (λ b. at_or_above c (source c i) l && b) (none_found (up c r.0 l) (move_count c) i (f r.0 (omega (arith, r.2))) h (sym (eqb-true _ _ r.3))) ∙ rw e)
      | inr e ↦ rw e
    ]))
