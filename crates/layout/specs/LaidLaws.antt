-- Laws of Laid.antt: how rows and tallies grow, and what a layout says of each state.
use Rattle.std.specs.Prelude.{ℕ, suc, ◌+◌, ◌≤◌, ◌<◌, ◌≡◌, refl, ◌≢◌, Bool, true, false, cond, List, length, set, replicate, ltb, max}
use Rattle.std.proofs.Common.{sym, ◌∙◌, inl, inr, zero-add, add-zero, le_trans, arith, length-set, get_or-set_same, get_or-set_other, ext_get_or}
use Rattle.std.proofs.Math.Path.{ap}
use Rattle.std.proofs.Math.Bool.{and-false}
use Rattle.std.proofs.Math.Decide.{ℕ_discrete, dec_le}
use Rattle.std.proofs.Math.ListN.{get_or}
use Rattle.std.proofs.lemmas.List.{get_or-replicate}
use borrow.Author.Tests.{lt-ltb, le-ltb, le-leb, lt-leb, eq-eqb, ne_eqb}
use Rattle.meaning.specs.Rows.{count}
use Rattle.meaning.proofs.Laws.Rows.{length_table, get_d_table, count_le, which}
use Rattle.meaning.specs.Tables.{Tables, state_count, super_state, initial}
use Rattle.meaning.specs.Hierarchy.{sub_state, sub_states}
use Rattle.meaning.proofs.Laws.Hierarchy.{sub_state_tells}
use Rattle.meaning.proofs.Laws.Layout.{width_least}
use Rattle.meaning.specs.Layout.{width, group_width, group_first, flip_flop_count, other_sub_state, code}
use Rattle.layout.specs.declared.Layout.{Layout}
use Rattle.layout.specs.Laid.{laid_states, given_code, row, tally, LaidOut}

-- ---- rows

pub length_row : (f : ℕ → ℕ) (n : ℕ) → length (row f n) ≡ 256
unfolding row
length_row f n = length_table (λ i. cond (ltb i n) (f i) 0) 0 256

row_at_lem : (f : ℕ → ℕ) (n i : ℕ) → i < 256 → get_or (row f n) i 0 ≡ cond (ltb i n) (f i) 0
unfolding row
row_at_lem f n i h = get_d_table (λ k. cond (ltb k n) (f k) 0) 0 256 i 0 h ∙ rw (zero-add i)

pub row_in : (f : ℕ → ℕ) (n i : ℕ) → i < 256 → i < n → get_or (row f n) i 0 ≡ f i
row_in f n i h l = row_at_lem f n i h ∙ rw (lt-ltb i n l)

pub row_past : (f : ℕ → ℕ) (n i : ℕ) → i < 256 → n ≤ i → get_or (row f n) i 0 ≡ 0
row_past f n i h l = row_at_lem f n i h ∙ rw (le-ltb i n l)

-- the places other than n are the same in the next row
row_next : (f : ℕ → ℕ) (n i : ℕ) → i < 256 → i ≢ n → get_or (row f n) i 0 ≡ get_or (row f (suc n)) i 0
row_next f n i h e = elim (dec_le (suc i) n) [
  | yes l ↦ row_in f n i h l ∙ sym (row_in f (suc n) i h (omega arith))
  | no l ↦ row_past f n i h (omega arith) ∙ sym (row_past f (suc n) i h (omega arith))
]

pub row_start : (f : ℕ → ℕ) → replicate 256 0 ≡ row f 0
row_start f = ext_get_or 0 (replicate 256 0) (row f 0) (sym (length_row f 0)) (λ i h.
    let l : i < 256 = h in get_or-replicate 256 i 0 0 l ∙ sym (row_past f 0 i l (omega arith)))

-- one more
pub row_set : (f : ℕ → ℕ) (n : ℕ) → n < 256 → set (row f n) n (f n) ≡ row f (suc n)
row_set f n z =
    let m : length (set (row f n) n (f n)) ≡ 256 = length-set (row f n) n (f n) ∙ length_row f n in
    ext_get_or 0 (set (row f n) n (f n)) (row f (suc n)) (m ∙ sym (length_row f (suc n))) (λ i h.
    let l : i < 256 = omega arith in
    elim (ℕ_discrete i n) [
      | yes e ↦ rw e (get_or-set_same (row f n) n (f n) 0 (omega (arith, length_row f n)) ∙ sym (row_in f (suc n) n z (omega arith)))
      | no e ↦ get_or-set_other (row f n) n i (f n) 0 e ∙ row_next f n i l e
    ])

pub row_skip : (f : ℕ → ℕ) (n : ℕ) → f n ≡ 0 → row f n ≡ row f (suc n)
row_skip f n z = ext_get_or 0 (row f n) (row f (suc n)) (length_row f n ∙ sym (length_row f (suc n))) (λ i h.
    let l : i < 256 = omega (arith, length_row f n) in
    elim (ℕ_discrete i n) [
      | yes e ↦ row_past f n i l (omega arith) ∙ sym (row_in f (suc n) i l (omega arith) ∙ ap f e ∙ z)
      | no e ↦ row_next f n i l e
    ])

-- ---- tallies

pub length_tally : (t : ℕ → ℕ → Bool) (s : ℕ) → length (tally t s) ≡ 256
unfolding tally
length_tally t s = length_table (λ a. count (t a) s) 0 256

pub tally_at : (t : ℕ → ℕ → Bool) (s a : ℕ) → a < 256 → get_or (tally t s) a 0 ≡ count (t a) s
unfolding tally
tally_at t s a h = get_d_table (λ b. count (t b) s) 0 256 a 0 h ∙ rw (zero-add a)

pub tally_le : (t : ℕ → ℕ → Bool) (s a : ℕ) → a < 256 → get_or (tally t s) a 0 ≤ s
tally_le t s a h = omega (arith, tally_at t s a h, count_le (t a) s)

tally_next : (t : ℕ → ℕ → Bool) (s a : ℕ) → a < 256 → t a s ≡ false → get_or (tally t s) a 0 ≡ get_or (tally t (suc s)) a 0
unfolding count
tally_next t s a h e = tally_at t s a h ∙ sym (tally_at t (suc s) a h ∙ rw e (add-zero (count (t a) s)))

pub tally_start : (t : ℕ → ℕ → Bool) → replicate 256 0 ≡ tally t 0
unfolding count
tally_start t = ext_get_or 0 (replicate 256 0) (tally t 0) (sym (length_tally t 0)) (λ i h.
    let l : i < 256 = h in get_or-replicate 256 i 0 0 l ∙ sym (tally_at t 0 i l))

-- s passes for b alone
pub tally_set : (t : ℕ → ℕ → Bool) (s b : ℕ) → b < 256 → t b s ≡ true → ((a : ℕ) → a ≢ b → t a s ≡ false) → set (tally t s) b (get_or (tally t s) b 0 + 1) ≡ tally t (suc s)
unfolding count
tally_set t s b z p q =
    let v = get_or (tally t s) b 0 + 1 in
    let m : length (set (tally t s) b v) ≡ 256 = length-set (tally t s) b v ∙ length_tally t s in
    ext_get_or 0 (set (tally t s) b v) (tally t (suc s)) (m ∙ sym (length_tally t (suc s))) (λ i h.
    let l : i < 256 = omega arith in
    elim (ℕ_discrete i b) [
      | yes e ↦ rw e (get_or-set_same (tally t s) b v 0 (omega (arith, length_tally t s)) ∙ ap (λ x. x + 1) (tally_at t s b z) ∙ sym (tally_at t (suc s) b z ∙ rw p))
      | no e ↦ get_or-set_other (tally t s) b i v 0 e ∙ tally_next t s i l (q i e)
    ])

-- s passes for none
pub tally_skip : (t : ℕ → ℕ → Bool) (s : ℕ) → ((a : ℕ) → a < 256 → t a s ≡ false) → tally t s ≡ tally t (suc s)
tally_skip t s q = ext_get_or 0 (tally t s) (tally t (suc s)) (length_tally t s ∙ sym (length_tally t (suc s))) (λ i h.
    let l : i < 256 = omega (arith, length_tally t s) in tally_next t s i l (q i l))

-- ---- one more state

-- after the states from 1 on, of n, where the root changes nothing: all n are done, or only the root is
pub all_done : {A : Type 0} (f : ℕ → A) (s n : ℕ) → f 0 ≡ f 1 → 1 ≤ s → n ≤ s → s ≤ max n 1 → f s ≡ f n
all_done f s n e one h k = elim (dec_le 1 n) [
  | yes l ↦ ap f (omega arith)
  | no l ↦ (let r : s ≡ 1 = omega arith in let z : n ≡ 0 = omega arith in rw (r, z) (sym e))
]

no_sub : (c : Tables) (a s : ℕ) → a ≢ super_state c s → sub_state c a s ≡ false
no_sub c a s n = elim (which (sub_state c a s)) [ inl e ↦ absurd (n (sym ((sub_state_tells c a s).0 e).under)) | inr e ↦ e ]

no_root : (c : Tables) (a : ℕ) → sub_state c a 0 ≡ false
no_root c a = elim (which (sub_state c a 0)) [ inl e ↦ absurd (((sub_state_tells c a 0).0 e).not_root refl) | inr e ↦ e ]

no_other : (c : Tables) (a s : ℕ) → sub_state c a s ≡ false → other_sub_state c a s ≡ false
unfolding other_sub_state
no_other c a s e = rw e

pub count_root : (c : Tables) → tally (sub_state c) 0 ≡ tally (sub_state c) 1
count_root c = tally_skip (sub_state c) 0 (λ a h. no_root c a)

pub code_root : (c : Tables) → (tally (other_sub_state c) 0 ≡ tally (other_sub_state c) 1) × (row (given_code c) 0 ≡ row (given_code c) 1)
unfolding given_code
code_root c = (tally_skip (other_sub_state c) 0 (λ a h. no_other c a 0 (no_root c a)), row_skip (given_code c) 0 refl)

module _ (c : Tables) (s : ℕ) where
  -- under a number that no state has
  pub count_far : 256 ≤ super_state c s → tally (sub_state c) s ≡ tally (sub_state c) (suc s)
  count_far f = tally_skip (sub_state c) s (λ a h. no_sub c a s (omega arith))

  pub code_far : 256 ≤ super_state c s → (tally (other_sub_state c) s ≡ tally (other_sub_state c) (suc s)) × (row (given_code c) s ≡ row (given_code c) (suc s))
  unfolding given_code
  code_far f = (
    tally_skip (other_sub_state c) s (λ a h. no_other c a s (no_sub c a s (omega arith))),
    row_skip (given_code c) s (rw (le-ltb (super_state c s) 256 f, and-false (ltb 0 s))),
  )

  module _ (not_root : s ≢ 0) (known : s < state_count c) (near : super_state c s < 256) where
    sub : sub_state c (super_state c s) s ≡ true
    sub = (sub_state_tells c (super_state c s) s).1 (record { not_root = not_root; known = known; under = refl })

    given : given_code c s ≡ code c s
    unfolding given_code
    given = rw (lt-ltb 0 s (omega arith), lt-ltb (super_state c s) 256 near)

    pub count_next : set (tally (sub_state c) s) (super_state c s) (get_or (tally (sub_state c) s) (super_state c s) 0 + 1) ≡ tally (sub_state c) (suc s)
    count_next = tally_set (sub_state c) s (super_state c s) near sub (λ a n. no_sub c a s n)

    -- "Its initial sub-state has code 0"
    pub code_initial : s ≡ initial c (super_state c s) → s < 256 → (tally (other_sub_state c) s ≡ tally (other_sub_state c) (suc s)) × (set (row (given_code c) s) s 0 ≡ row (given_code c) (suc s))
    unfolding other_sub_state code
    code_initial e l =
        let z : given_code c s ≡ 0 = given ∙ rw (eq-eqb s (initial c (super_state c s)) e) in (
          tally_skip (other_sub_state c) s (λ a h. elim (ℕ_discrete a (super_state c s)) [
            | yes y ↦ rw (y, eq-eqb s (initial c (super_state c s)) e) (and-false (sub_state c (super_state c s) s))
            | no n ↦ no_other c a s (no_sub c a s n)
          ]),
          ap (set (row (given_code c) s) s) (sym z) ∙ row_set (given_code c) s l,
        )

    -- "the others 1, 2, and so on by rising state number"
    pub code_next : s ≢ initial c (super_state c s) → s < 256 →
        let v = get_or (tally (other_sub_state c) s) (super_state c s) 0 + 1 in
        (set (tally (other_sub_state c) s) (super_state c s) v ≡ tally (other_sub_state c) (suc s)) × (set (row (given_code c) s) s v ≡ row (given_code c) (suc s))
    unfolding other_sub_state code
    code_next n l =
        let a = super_state c s in
        let v = get_or (tally (other_sub_state c) s) a 0 + 1 in
        let z : given_code c s ≡ v = given ∙ rw (ne_eqb s (initial c a) n, tally_at (other_sub_state c) s a near) (omega arith) in (
          tally_set (other_sub_state c) s a near (rw (sub, ne_eqb s (initial c a) n)) (λ b m. no_other c b s (no_sub c b s m)),
          ap (set (row (given_code c) s) s) (sym z) ∙ row_set (given_code c) s l,
        )

-- ---- all states

pub laid_all : (c : Tables) → state_count c ≤ 256 → laid_states c ≡ state_count c
unfolding laid_states
laid_all c h = rw (le-leb (state_count c) 256 h)

laid_some : (c : Tables) (a : ℕ) → a < laid_states c → state_count c ≤ 256
unfolding laid_states
laid_some c a h = elim (dec_le (state_count c) 256) [
  | yes l ↦ l
  | no n ↦ (let z : a < 0 = rw (lt-leb (state_count c) 256 (omega arith)) at h in absurd (omega arith))
]

pub laid_most : (c : Tables) → laid_states c ≤ 256
unfolding laid_states
laid_most c = elim (dec_le (state_count c) 256) [
  | yes l ↦ rw (le-leb (state_count c) 256 l) l
  | no n ↦ rw (lt-leb (state_count c) 256 (omega arith)) (omega arith)
]

-- the tally of all states has the number of sub-states of each
pub tally_width : (c : Tables) (a : ℕ) → a < laid_states c → width (get_or (tally (sub_state c) (laid_states c)) a 0) ≡ group_width c a
unfolding group_width sub_states
tally_width c a h =
    let l = laid_some c a h in
    ap width (tally_at (sub_state c) (laid_states c) a (omega (arith, laid_all c l)) ∙ ap (count (sub_state c a)) (laid_all c l))

-- no state of those laid out has more sub-states than there are states
pub few_subs : (c : Tables) {counts : List ℕ} → counts ≡ tally (sub_state c) (laid_states c) → (a : ℕ) → a < 256 → get_or counts a 0 ≤ 256
few_subs c e a h = rw e (le_trans (tally_le (sub_state c) (laid_states c) a h) (laid_most c))

pub width_small : (n : ℕ) → n ≤ 256 → width n ≤ 8
width_small n h = (width_least n).least 8 h

-- those of all states
pub all_flip_flops : (c : Tables) → state_count c ≤ 256 → group_first c (laid_states c) ≡ flip_flop_count c
unfolding flip_flop_count
all_flip_flops c h = rw (laid_all c h)

-- ---- what a layout says

same : {f g w x k j : List ℕ} {t u : ℕ} → f ≡ g → w ≡ x → k ≡ j → t ≡ u →
    ◌≡◌ {A = Layout} (record { first = f; width = w; code = k; total = t }) (record { first = g; width = x; code = j; total = u })
same p q r s = rw (p, q, r, s)

-- no second answer
pub one_layout : (c : Tables) (l m : Layout) → LaidOut c l → LaidOut c m → l ≡ m
one_layout c l m p q =
    same (p.first ∙ sym q.first) (p.width ∙ sym q.width) (p.code ∙ sym q.code) (p.total ∙ sym q.total)

module _ (c : Tables) (l : Layout) (o : LaidOut c l) (fits : state_count c ≤ 256) where
  pub first_at : (a : ℕ) → a < state_count c → get_or l.first a 0 ≡ group_first c a
  first_at a h = rw (o.first, laid_all c fits) (row_in (group_first c) (state_count c) a (omega arith) h)

  pub width_at : (a : ℕ) → a < state_count c → get_or l.width a 0 ≡ group_width c a
  width_at a h = rw (o.width, laid_all c fits) (row_in (group_width c) (state_count c) a (omega arith) h)

  pub code_at_lem : (a s : ℕ) → a < state_count c → sub_state c a s ≡ true → get_or l.code s 0 ≡ code c s
  code_at_lem a s h e =
      let r = (sub_state_tells c a s).0 e in
      let k = r.known in
      let u = r.under in
      rw (o.code, laid_all c fits) (row_in (given_code c) (state_count c) s (omega arith) k ∙ given c s r.not_root k (omega arith))

  pub total_is : l.total ≡ flip_flop_count c
  total_is = o.total ∙ all_flip_flops c fits
