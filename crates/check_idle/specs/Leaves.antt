-- IDLE TIMER by words: which timers all leaves at or below a state run.
use Rattle.std.specs.Prelude.{◌≡◌, ℕ, suc, ◌+◌, ◌-◌, ◌^◌, ◌<◌, ◌≤◌, Bool, not, ◌&&◌, ◌||◌, List, length, get_or, set, eqb, nat_abs}
use Rattle.std.proofs.Math.Path.{refl, sym, ap}
use Rattle.std.proofs.Common.{◌∙◌, arith, get_or-set_same, get_or-set_other, eq-eqb, ne_eqb, eqb-true}
use Rattle.std.proofs.Math.Logic.{inl, inr}
use Rattle.std.proofs.Math.Decide.{ℕ_discrete, dec_le}
use Rattle.std.proofs.Math.Bool.{true, false, or-false}
use Rattle.std.specs.Int.Bits.{bit_and, bit_or}
use Rattle.std.proofs.lemmas.Nat.{and_le_l, or_lt}
use Rattle.meaning.specs.Rows.{some, every}
use Rattle.meaning.proofs.Laws.Rows.{and_l, and_r, and_both, or_l, or_r, or_cases, same_test, some_yes, some_intro, every_yes, every_intro}
use Rattle.meaning.proofs.Laws.Bits.{or_bit, and_bit, no_bit, other_bit, same_bits}
use Rattle.meaning.specs.Tables.{Tables, most_depth, most_moves, literal_places, state_count, move_count, super_state, source, literal}
use Rattle.meaning.specs.Hierarchy.{up, at_or_above, is_leaf, timer_runs}
use Rattle.meaning.proofs.Laws.Hierarchy.{up_add}
use Rattle.meaning.specs.Literals.{kind_of, wanted, input_on}
use Rattle.meaning.specs.Needs.{needed_by}
use Rattle.meaning.proofs.Laws.Needs.{size_as, timer_named, names_timer, stands_by, stands_in_lem}
use Rattle.meaning.specs.Check.{initial_passes, runs_below}
use Rattle.meaning.specs.Rules.{MoveRule}
use Rattle.meaning.specs.declared.Kind.{Kind}
use Rattle.meaning.specs.declared.Kind.TheVariants.{Unused, Input, Timer, Unknown}
use Rattle.check_tree.specs.Falling.{Falling}
use Rattle.check_pairing.specs.Words.{Tree, PairedWords}
use Rattle.check_pairing.specs.WordsLaws.{root_stays}
use Rattle.check_needs.specs.declared.Needs.{Needs}
use Rattle.check_needs.specs.Words.{NeedWords}

-- what the later checks know from the earlier ones
pub record EarlierPassed (c : Tables) : Type 0 where
  pub initials : (s : ℕ) → s < state_count c → initial_passes c s ≡ true
  pub tree : Tree c
  pub falling : Falling c
  pub few_moves : move_count c ≤ most_moves

-- that, and the words of the timers that run at each state
pub record TimersKnown (c : Tables) (rs : List ℕ) : Type 0 where
  pub running : PairedWords c c.timer_pairs rs
  pub sound : EarlierPassed c

-- l is no leaf at or below x, or runs n
abbrev pub leaf_runs : Tables → ℕ → ℕ → ℕ → Bool
leaf_runs c n x l = not (is_leaf c l && at_or_above c x l) || timer_runs c n l

-- the words of the timers that all leaves at or below each state run
abbrev pub Below : Tables → List ℕ → Type 0
Below c ws = (t x : ℕ) → 1 ≤ t → t ≤ 64 → x < state_count c → input_on (get_or ws x 0) t ≡ runs_below c x (Timer t)

-- the sources are states
abbrev pub Sources : Tables → Type 0
Sources c = (i : ℕ) → i < move_count c → source c i < state_count c

pub source_known : (c : Tables) (i : ℕ) → MoveRule c i → source c i < state_count c
unfolding source
source_known c i m = rw m.from_known.1 m.from_known.2

-- ---- words

-- words that have every number
abbrev pub Full : List ℕ → Type 0
Full ws = (l : ℕ) → l < length ws → get_or ws l 0 ≡ 18446744073709551615

-- every bit of the largest word is on
pub full_on : (n : ℕ) → 1 ≤ n → n ≤ 64 → input_on 18446744073709551615 n ≡ true
full_on n h k = let e : n ≡ suc (n - 1) = omega arith in rw e (other_bit 64 0 (n - 1) (omega arith) (omega arith) ∙ ap not (no_bit (suc (n - 1))))

pub every_more : (p : ℕ → Bool) (n : ℕ) → every p 0 (suc n) ≡ (every p 0 n && p n)
every_more p n = same_test (every p 0 (suc n)) (every p 0 n && p n)
    (λ e. and_both (every p 0 n) (p n) (every_intro p n (λ k h. every_yes p (suc n) e k (omega arith))) (every_yes p (suc n) e n (omega arith)))
    (λ e. every_intro p (suc n) (λ k h. elim (ℕ_discrete k n) [
      | yes z ↦ rw z (and_r (every p 0 n) (p n) e)
      | no z ↦ every_yes p n (and_l (every p 0 n) (p n) e) k (omega (arith, z))
    ]))

-- ---- the test by words

-- all timers that are named are run below: no literal names another
module _ (c : Tables) (i x : ℕ) (a : Needs) (b : ℕ) (w : NeedWords c i literal_places a) (below : (t : ℕ) → 1 ≤ t → t ≤ 64 → input_on b t ≡ runs_below c x (Timer t)) where
  abbrev names : ℕ
  names = bit_or a.on.timers a.off.timers

  -- of either sign
  named_by : (z : Bool) (t : ℕ) → 1 ≤ t → t ≤ 64 → (needed_by c i literal_places z).timers t ≡ true → input_on names t ≡ true
  named_by true t h k e = or_bit a.on.timers a.off.timers t ∙ or_l _ (input_on a.off.timers t) (w.on.timers t h k ∙ e)
  named_by false t h k e = or_bit a.on.timers a.off.timers t ∙ or_r (input_on a.on.timers t) _ (w.off.timers t h k ∙ e)

  there : bit_and names b ≡ names → (j : ℕ) → j < literal_places → runs_below c x (kind_of (nat_abs (literal c i j))) ≡ true
  unfolding runs_below needed_by
  there e j h = go (kind_of (nat_abs (literal c i j))) refl
    where
      go : (K : Kind) → kind_of (nat_abs (literal c i j)) ≡ K → runs_below c x K ≡ true
      go Unused f = refl
      go (Input m) f = refl
      go (Timer t) f =
          let g = size_as (nat_abs (literal c i j)) (Timer t) f in
          let k : t ≤ 64 = omega (arith, g.2) in
          let z = wanted (literal c i j) in
          let d = named_by z t g.1 k (stands_in_lem c i literal_places z (λ s. s.timers t) j h refl (names_timer (nat_abs (literal c i j)) t f)) in
          sym (below t g.1 k) ∙ and_r (input_on names t) (input_on b t) (sym (and_bit names b t) ∙ ap (λ y. input_on y t) e ∙ d)
      go Unknown f = refl

  back : ((j : ℕ) → j < literal_places → runs_below c x (kind_of (nat_abs (literal c i j))) ≡ true) → (t : ℕ) → 1 ≤ t → t ≤ 64 → input_on names t ≡ true → input_on b t ≡ true
  unfolding needed_by
  back f t h k e = elim (or_cases (input_on a.on.timers t) (input_on a.off.timers t) (sym (or_bit a.on.timers a.off.timers t) ∙ e)) [
    | inl d ↦ of true (sym (w.on.timers t h k) ∙ d)
    | inr d ↦ of false (sym (w.off.timers t h k) ∙ d)
  ]
    where
      of : (z : Bool) → (needed_by c i literal_places z).timers t ≡ true → input_on b t ≡ true
      of z d =
          let y = stands_by c i literal_places z (λ s. s.timers t) d in
          below t h k ∙ sym (ap (runs_below c x) (timer_named (nat_abs (literal c i y.0)) t y.3)) ∙ f y.0 y.1

  pub idle_words : a.on.timers < 2 ^ 64 → a.off.timers < 2 ^ 64 → eqb (bit_and names b) names ≡ every (λ j. runs_below c x (kind_of (nat_abs (literal c i j)))) 0 literal_places
  idle_words hr hs = same_test (eqb (bit_and names b) names) (every (λ j. runs_below c x (kind_of (nat_abs (literal c i j)))) 0 literal_places)
      (λ e. every_intro (λ j. runs_below c x (kind_of (nat_abs (literal c i j)))) literal_places (there (eqb-true (bit_and names b) names e)))
      (λ e. let f = back (every_yes (λ j. runs_below c x (kind_of (nat_abs (literal c i j)))) literal_places e) in
      let small = or_lt 64 a.on.timers a.off.timers hr hs in
      eq-eqb (bit_and names b) names (same_bits 64 (bit_and names b) names (omega (arith, and_le_l names b)) small
      (λ n h. and_bit names b (suc n) ∙ same_test (input_on names (suc n) && input_on b (suc n)) (input_on names (suc n)) (and_l _ _) (λ d. and_both _ _ d (f (suc n) (omega arith) (omega arith) d)))))

-- ---- a leaf narrows the words of the states above it

-- nothing is above yet
pub narrow_none : (a w : Bool) → a ≡ (a && (not false || w))
narrow_none true w = refl
narrow_none false w = refl

-- one level more
pub narrow_more : (ws : List ℕ) (s x w n : ℕ) (a p : Bool) → x < length ws → input_on (get_or ws x 0) n ≡ (a && (not p || input_on w n))
    → input_on (get_or (set ws s (bit_and (get_or ws s 0) w)) x 0) n ≡ (a && (not (p || eqb s x) || input_on w n))
narrow_more ws s x w n a p h e = elim (ℕ_discrete x s) [
  | yes z ↦ rw (z, eq-eqb s s refl, get_or-set_same ws s (bit_and (get_or ws s 0) w) 0 (rw (sym z) h))
      (and_bit (get_or ws s 0) w n ∙ ap (λ b. b && input_on w n) (rw z at e) ∙ twice a p (input_on w n))
  | no z ↦ rw (ne_eqb s x (λ q. z (sym q)), get_or-set_other ws s x (bit_and (get_or ws s 0) w) 0 z) (e ∙ ap (λ b. a && (not b || input_on w n)) (sym (or-false p)))
]
  where
    twice : (b q v : Bool) → ((b && (not q || v)) && v) ≡ (b && (not (q || true) || v))
    twice true true true = refl
    twice true true false = refl
    twice true false true = refl
    twice true false false = refl
    twice false q v = refl

-- a state that is no leaf narrows nothing
pub narrow_not : (c : Tables) (a : Bool) (n x l : ℕ) → is_leaf c l ≡ false → a ≡ (a && leaf_runs c n x l)
narrow_not c true n x l e = rw e
narrow_not c false n x l e = refl

pub narrow_leaf : (c : Tables) (n x l : ℕ) (a w : Bool) → is_leaf c l ≡ true → w ≡ timer_runs c n l → (a && (not (at_or_above c x l) || w)) ≡ (a && leaf_runs c n x l)
narrow_leaf c n x l a w e f = rw (e, f)

pub running_at : (c : Tables) (rs : List ℕ) (n l : ℕ) → PairedWords c c.timer_pairs rs → 1 ≤ n → n ≤ 64 → l < state_count c → input_on (get_or rs l 0) n ≡ timer_runs c n l
unfolding timer_runs
running_at c rs n l r p q h = let e : n ≡ suc (n - 1) = omega arith in rw e (r l (n - 1) h (omega arith))

-- from the root on the way up stays there
pub up_to_root : (c : Tables) (l x k : ℕ) → super_state c 0 ≡ 0 → k ≤ most_depth → up c k l ≡ 0 → some (λ j. eqb (up c j l) x) 0 (suc k) ≡ at_or_above c x l
unfolding at_or_above
up_to_root c l x k e h f = same_test (some (λ j. eqb (up c j l) x) 0 (suc k)) (some (λ j. eqb (up c j l) x) 0 9)
    (λ p. let r = some_yes (λ j. eqb (up c j l) x) 0 (suc k) p in some_intro (λ j. eqb (up c j l) x) 0 9 r.0 (omega arith) (omega (arith, r.2)) r.3)
    (λ p. let r = some_yes (λ j. eqb (up c j l) x) 0 9 p in elim (dec_le r.0 k) [
      | yes g ↦ some_intro (λ j. eqb (up c j l) x) 0 (suc k) r.0 (omega arith) (omega arith) r.3
      | no g ↦ (let z : r.0 ≡ (r.0 - k) + k = omega arith in
          let y : up c r.0 l ≡ up c k l = ap (λ j. up c j l) z ∙ up_add c (r.0 - k) k l ∙ ap (up c (r.0 - k)) f ∙ root_stays c e (r.0 - k) ∙ sym f in
          some_intro (λ j. eqb (up c j l) x) 0 (suc k) k (omega arith) (omega arith) (ap (λ s. eqb s x) (sym y) ∙ r.3))
    ])
