-- Super-states with the smaller numbers: the way up from a state only falls.
use Rattle.std.specs.Prelude.{◌≡◌, ℕ, zero, suc, ◌+◌, ◌%◌, ◌≤◌, ◌<◌, true, ◌||◌, length}
use Rattle.std.proofs.Common.{sym, ap, ◌∙◌, inl, inr, arith}
use Rattle.std.proofs.Math.Decide.{dec_le, ℕ_discrete}
use Rattle.std.proofs.Math.Bool.{or-false}
use Rattle.std.proofs.Math.ListN.{get_or-eq_default}
use Rattle.meaning.proofs.Laws.Rows.{which, or_l, or_r}
use Rattle.meaning.specs.Tables.{Tables, state_count, super_state}
use Rattle.meaning.specs.Hierarchy.{up, at_or_above}
use Rattle.meaning.proofs.Laws.Hierarchy.{at_or_above_tells}
use Rattle.meaning.specs.Rules.{HierarchyRule}

abbrev pub Falling : Tables → Type 0
Falling c = (s : ℕ) → super_state c s ≤ s

pub falls : (c : Tables) → Falling c → (s k j : ℕ) → up c (j + k) s ≤ up c k s
unfolding up
falls c f s k zero = let z : zero + k ≡ k = omega arith in rw z (omega arith)
falls c f s k (suc j) = let z : suc j + k ≡ suc (j + k) = omega arith in rw z (omega (arith, f (up c (j + k) s), falls c f s k j))

-- what is above a greater number is that number
above_less : (c : Tables) (a b : ℕ) → Falling c → a ≤ b → at_or_above c b a ≡ true → at_or_above c a b ≡ true
unfolding up
above_less c a b f h e =
    let r = (at_or_above_tells c b a).0 e in
    let z : r.0 + 0 ≡ r.0 = omega arith in
    let g : up c r.0 a ≤ a = rw z at (falls c f a 0 r.0) in
    (at_or_above_tells c a b).1 (0, omega arith, omega (arith, g, r.2))

pub near_low : (c : Tables) (a b : ℕ) → Falling c → a ≤ b → at_or_above c a b ≡ (at_or_above c a b || at_or_above c b a)
near_low c a b f h = elim (which (at_or_above c b a)) [
  | inl e ↦ above_less c a b f h e ∙ sym (or_r (at_or_above c a b) (at_or_above c b a) e)
  | inr e ↦ sym (or-false (at_or_above c a b)) ∙ ap (λ x. at_or_above c a b || x) (sym e)
]

pub near_high : (c : Tables) (a b : ℕ) → Falling c → b ≤ a → at_or_above c b a ≡ (at_or_above c a b || at_or_above c b a)
near_high c a b f h = elim (which (at_or_above c a b)) [
  | inl e ↦ above_less c b a f h e ∙ sym (or_l (at_or_above c a b) (at_or_above c b a) e)
  | inr e ↦ ap (λ x. x || at_or_above c b a) (sym e)
]

-- the check of the hierarchy has passed
pub falling : (c : Tables) → length c.states % 2 ≡ 0 → ((s : ℕ) → s < state_count c → HierarchyRule c s) → Falling c
unfolding super_state state_count
falling c e f s = elim (dec_le (suc s) (state_count c)) [
  | yes h ↦ elim (ℕ_discrete s 0) [
    | yes z ↦ omega (arith, (f s h).root z)
    | no z ↦ omega (arith, (f s h).smaller z)
  ]
  | no h ↦ (let z : super_state c s ≡ 0 = get_or-eq_default c.states 0 (omega (arith, e)) in omega (arith, z))
]
