-- What a state has from the states above it.
use Rattle.std.specs.Prelude.{◌≡◌, refl, ℕ, zero, suc, ◌+◌, ◌-◌, ◌<◌, ◌≤◌, Bool, true, false, ◌&&◌, ◌||◌, List, eqb, length, get_or, set}
use Rattle.std.proofs.Common.{sym, ap, ◌∙◌, inl, inr, arith, length-set, get_or-set_same, get_or-set_other, eq-eqb, ne_eqb, eqb-true}
use Rattle.std.proofs.Math.Decide.{ℕ_discrete, dec_le}
use Rattle.std.specs.Int.Bits.{bit_or}
use Rattle.meaning.proofs.Laws.Rows.{which, same_test, and_l, and_r, and_both, or_cases, or_l, or_r, some_yes, some_intro}
use Rattle.meaning.proofs.Laws.Bits.{or_bit}
use Rattle.meaning.specs.Tables.{Tables, state_count, super_state, pair_count, pair_number, pair_state}
use Rattle.meaning.specs.Hierarchy.{up, at_or_above, paired}
use Rattle.meaning.proofs.Laws.Hierarchy.{at_or_above_tells, up_super, up_add}
use Rattle.meaning.specs.Literals.{input_on}
use Rattle.meaning.specs.Rules.{AtOrAbove}
use Rattle.check_pairing.specs.Words.{Tree, row_at, own, Own, Upto}

-- ---- one row more

pub row_none : (b p q : Bool) → (p && q) ≡ false → b ≡ (b || (p && q))
row_none true p q e = refl
row_none false p q e = sym e

pub row_at_lem : (b p q : Bool) → q ≡ true → (b || p) ≡ (b || (p && q))
row_at_lem b true q e = ap (λ x. b || x) (sym e)
row_at_lem b false q e = refl

pub and_none : (p q : Bool) → p ≡ false → (p && q) ≡ false
and_none p q e = ap (λ x. x && q) e

pub none_and : (p q : Bool) → q ≡ false → (p && q) ≡ false
none_and true q e = e
none_and false q e = refl

-- a row whose number or state is another
pub row_other : (ps : List ℕ) (b : Bool) (n l i : ℕ) → (pair_number ps i ≡ n → pair_state ps i ≡ l → ⊥) → b ≡ (b || row_at ps n l i)
row_other ps b n l i h = elim (which (eqb (pair_number ps i) n)) [
  | inl e ↦ row_none b (eqb (pair_number ps i) n) (eqb (pair_state ps i) l) (none_and (eqb (pair_number ps i) n) (eqb (pair_state ps i) l) (ne_eqb (pair_state ps i) l (h (eqb-true (pair_number ps i) n e))))
  | inr e ↦ row_none b (eqb (pair_number ps i) n) (eqb (pair_state ps i) l) (and_none (eqb (pair_number ps i) n) (eqb (pair_state ps i) l) e)
]

-- row i adds its number at the place of its state
pub added : (ps ws : List ℕ) (n l i w a m : ℕ) → a ≡ pair_state ps i → m ≡ pair_number ps i → l < length ws
    → input_on w n ≡ (input_on (get_or ws a 0) n || eqb m n)
    → input_on (get_or (set ws a w) l 0) n ≡ (input_on (get_or ws l 0) n || row_at ps n l i)
added ps ws n l i w a m e f h g = elim (ℕ_discrete l a) [
  | yes z ↦ rw (z, get_or-set_same ws a w 0 (rw (sym z) h)) (rw f at g ∙ row_at_lem (input_on (get_or ws a 0) n) (eqb (pair_number ps i) n) (eqb (pair_state ps i) a) (eq-eqb (pair_state ps i) a (sym e)))
  | no z ↦ rw (get_or-set_other ws a l w 0 z) (row_other ps (input_on (get_or ws l 0) n) n l i (λ p q. z (sym q ∙ sym e)))
]

-- the root stays the root
pub root_stays : (c : Tables) → super_state c 0 ≡ 0 → (k : ℕ) → up c k 0 ≡ 0
unfolding up
root_stays c e zero = refl
root_stays c e (suc k) = ap (super_state c) (root_stays c e k) ∙ e

-- at or above s: s itself, or at or above its super-state
pub above_step : (c : Tables) (a s : ℕ) → super_state c 0 ≡ 0 → AtOrAbove c 0 s → at_or_above c a s ≡ (eqb a s || at_or_above c a (super_state c s))
unfolding up
above_step c a s e r = same_test (at_or_above c a s) (eqb a s || at_or_above c a (super_state c s)) there back
  where
    climb : AtOrAbove c a s → (eqb a s || at_or_above c a (super_state c s)) ≡ true
    climb (zero, h, f) = or_l (eqb a s) (at_or_above c a (super_state c s)) (eq-eqb a s (sym f))
    climb (suc k, h, f) = or_r (eqb a s) (at_or_above c a (super_state c s)) ((at_or_above_tells c a (super_state c s)).1 (k, omega arith, sym (up_super c k s) ∙ f))

    there : at_or_above c a s ≡ true → (eqb a s || at_or_above c a (super_state c s)) ≡ true
    there f = climb ((at_or_above_tells c a s).0 f)

    far : up c 8 s ≡ 0
    far = let z : 8 ≡ (8 - r.0) + r.0 = omega (arith, r.1) in
        ap (λ k. up c k s) z ∙ up_add c (8 - r.0) r.0 s ∙ ap (up c (8 - r.0)) r.2 ∙ root_stays c e (8 - r.0)

    down : AtOrAbove c a (super_state c s) → AtOrAbove c a s
    down q = elim (dec_le (suc q.0) 8) [
      | yes h ↦ (suc q.0, h, up_super c q.0 s ∙ q.2)
      | no h ↦ (let z : q.0 ≡ 8 = omega (arith, q.1) in
          let f : a ≡ 0 = sym q.2 ∙ ap (λ k. up c k (super_state c s)) z ∙ sym (up_super c 8 s) ∙ ap (super_state c) far ∙ e in
          (8, omega arith, far ∙ sym f))
    ]

    back : (eqb a s || at_or_above c a (super_state c s)) ≡ true → at_or_above c a s ≡ true
    back f = elim (or_cases (eqb a s) (at_or_above c a (super_state c s)) f) [
      | inl g ↦ (at_or_above_tells c a s).1 (0, omega arith, sym (eqb-true a s g))
      | inr g ↦ (at_or_above_tells c a s).1 (down ((at_or_above_tells c a (super_state c s)).0 g))
    ]

-- a row pairs n with a state at or above s: with s itself, or with one at or above its super-state
pub paired_step : (c : Tables) (ps : List ℕ) (n s : ℕ) → Tree c → s < state_count c → paired c ps n s ≡ (own ps n s || paired c ps n (super_state c s))
unfolding paired
paired_step c ps n s t h = same_test (paired c ps n s) (own ps n s || paired c ps n (super_state c s)) there back
  where
    step : (i : ℕ) → at_or_above c (pair_state ps i) s ≡ (eqb (pair_state ps i) s || at_or_above c (pair_state ps i) (super_state c s))
    step i = above_step c (pair_state ps i) s ((t.hierarchy 0 (omega arith)).root refl) (t.hierarchy s h).shallow

    there : paired c ps n s ≡ true → (own ps n s || paired c ps n (super_state c s)) ≡ true
    there e =
        let r = some_yes (λ i. eqb (pair_number ps i) n && at_or_above c (pair_state ps i) s) 0 (pair_count ps) e in
        let number = and_l (eqb (pair_number ps r.0) n) (at_or_above c (pair_state ps r.0) s) r.3 in
        let state = and_r (eqb (pair_number ps r.0) n) (at_or_above c (pair_state ps r.0) s) r.3 in
        elim (or_cases (eqb (pair_state ps r.0) s) (at_or_above c (pair_state ps r.0) (super_state c s)) (sym (step r.0) ∙ state)) [
          | inl f ↦ or_l (own ps n s) (paired c ps n (super_state c s)) (some_intro (row_at ps n s) 0 (pair_count ps) r.0 r.1 r.2 (and_both (eqb (pair_number ps r.0) n) (eqb (pair_state ps r.0) s) number f))
          | inr f ↦ or_r (own ps n s) (paired c ps n (super_state c s)) (some_intro (λ i. eqb (pair_number ps i) n && at_or_above c (pair_state ps i) (super_state c s)) 0 (pair_count ps) r.0 r.1 r.2
              (and_both (eqb (pair_number ps r.0) n) (at_or_above c (pair_state ps r.0) (super_state c s)) number f))
        ]

    back : (own ps n s || paired c ps n (super_state c s)) ≡ true → paired c ps n s ≡ true
    back e = elim (or_cases (own ps n s) (paired c ps n (super_state c s)) e) [
      | inl f ↦ (let r = some_yes (row_at ps n s) 0 (pair_count ps) f in
          let number = and_l (eqb (pair_number ps r.0) n) (eqb (pair_state ps r.0) s) r.3 in
          let state = and_r (eqb (pair_number ps r.0) n) (eqb (pair_state ps r.0) s) r.3 in
          some_intro (λ i. eqb (pair_number ps i) n && at_or_above c (pair_state ps i) s) 0 (pair_count ps) r.0 r.1 r.2
          (and_both (eqb (pair_number ps r.0) n) (at_or_above c (pair_state ps r.0) s) number (step r.0 ∙ or_l (eqb (pair_state ps r.0) s) (at_or_above c (pair_state ps r.0) (super_state c s)) state)))
      | inr f ↦ (let r = some_yes (λ i. eqb (pair_number ps i) n && at_or_above c (pair_state ps i) (super_state c s)) 0 (pair_count ps) f in
          let number = and_l (eqb (pair_number ps r.0) n) (at_or_above c (pair_state ps r.0) (super_state c s)) r.3 in
          let state = and_r (eqb (pair_number ps r.0) n) (at_or_above c (pair_state ps r.0) (super_state c s)) r.3 in
          some_intro (λ i. eqb (pair_number ps i) n && at_or_above c (pair_state ps i) s) 0 (pair_count ps) r.0 r.1 r.2
          (and_both (eqb (pair_number ps r.0) n) (at_or_above c (pair_state ps r.0) s) number (step r.0 ∙ or_r (eqb (pair_state ps r.0) s) (at_or_above c (pair_state ps r.0) (super_state c s)) state)))
    ]

-- the root has its own pairs and no others
pub paired_root : (c : Tables) (ps : List ℕ) (n : ℕ) → Tree c → 0 < state_count c → paired c ps n 0 ≡ own ps n 0
unfolding paired
paired_root c ps n t h = same_test (paired c ps n 0) (own ps n 0) there back
  where
    root : super_state c 0 ≡ 0
    root = (t.hierarchy 0 h).root refl

    there : paired c ps n 0 ≡ true → own ps n 0 ≡ true
    there e =
        let r = some_yes (λ i. eqb (pair_number ps i) n && at_or_above c (pair_state ps i) 0) 0 (pair_count ps) e in
        let number = and_l (eqb (pair_number ps r.0) n) (at_or_above c (pair_state ps r.0) 0) r.3 in
        let state = (at_or_above_tells c (pair_state ps r.0) 0).0 (and_r (eqb (pair_number ps r.0) n) (at_or_above c (pair_state ps r.0) 0) r.3) in
        some_intro (row_at ps n 0) 0 (pair_count ps) r.0 r.1 r.2
        (and_both (eqb (pair_number ps r.0) n) (eqb (pair_state ps r.0) 0) number (eq-eqb (pair_state ps r.0) 0 (sym state.2 ∙ root_stays c root state.0)))

    back : own ps n 0 ≡ true → paired c ps n 0 ≡ true
    back e = paired_step c ps n 0 t h ∙ or_l (own ps n 0) (paired c ps n (super_state c 0)) e

-- ---- from the root down

pub root_done : (c : Tables) (ps ws : List ℕ) → Tree c → state_count c ≤ length ws → Own ps ws → Upto c ps ws 1
root_done c ps ws t e o = (
  (λ n l h k g f. let z : l ≡ 0 = omega arith in rw z (o n 0 h k (omega arith) ∙ sym (paired_root c ps n t (omega arith)))),
  (λ n l h k g f. o n l h k f),
)

pub inherited : (c : Tables) (ps ws : List ℕ) (s : ℕ) → Tree c → 1 ≤ s → s < state_count c → state_count c ≤ length ws → Upto c ps ws s
    → Upto c ps (set ws s (bit_or (get_or ws s 0) (get_or ws (super_state c s) 0))) (s + 1)
inherited c ps ws s t h k e u = (below, above)
  where
    smaller : super_state c s < s
    smaller = (t.hierarchy s k).smaller (λ z. omega (arith, z))

    within : s < length ws
    within = omega arith

    below : (n l : ℕ) → 1 ≤ n → n ≤ 64 → l < s + 1 → l < state_count c → input_on (get_or (set ws s (bit_or (get_or ws s 0) (get_or ws (super_state c s) 0))) l 0) n ≡ paired c ps n l
    below n l p q g f = elim (ℕ_discrete l s) [
      | yes z ↦ rw (z, get_or-set_same ws s (bit_or (get_or ws s 0) (get_or ws (super_state c s) 0)) 0 within)
          (or_bit (get_or ws s 0) (get_or ws (super_state c s) 0) n
          ∙ ap (λ b. b || input_on (get_or ws (super_state c s) 0) n) (u.1 n s p q (omega arith) within)
          ∙ ap (λ b. own ps n s || b) (u.0 n (super_state c s) p q smaller (omega (arith, smaller)))
          ∙ sym (paired_step c ps n s t k))
      | no z ↦ rw (get_or-set_other ws s l (bit_or (get_or ws s 0) (get_or ws (super_state c s) 0)) 0 z) (u.0 n l p q (omega (arith, z)) f)
    ]

    above : (n l : ℕ) → 1 ≤ n → n ≤ 64 → s + 1 ≤ l → l < length (set ws s (bit_or (get_or ws s 0) (get_or ws (super_state c s) 0))) → input_on (get_or (set ws s (bit_or (get_or ws s 0) (get_or ws (super_state c s) 0))) l 0) n ≡ own ps n l
    above n l p q g f = rw (get_or-set_other ws s l (bit_or (get_or ws s 0) (get_or ws (super_state c s) 0)) 0 (λ z. omega (arith, z))) (u.1 n l p q (omega arith) (rw length-set at f))
