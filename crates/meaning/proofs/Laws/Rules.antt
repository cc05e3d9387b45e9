-- Each test of Check.antt says what its rule of Rules.antt says in words: for any tables, OVERLAP where LITERAL passes.
use Rattle.std.specs.Prelude.{◌≡◌, refl, ◌≢◌, ◌⊎◌, ◌↔◌, ℕ, ◌-◌, ◌≤◌, ◌<◌, true, List, eqb, ℤ, pos, negsuc, nat_abs}
use Rattle.std.proofs.Common.{sym, ap, ◌∙◌, inl, inr, arith, eqb-true, eq-eqb, ne_eqb, lt-ltb, ltb-true, leb-true, le-leb}
use Rattle.std.proofs.Math.Decide.{ℕ_discrete}
use Rattle.std.proofs.lemmas.Bool.{false≢true}
use Rattle.meaning.proofs.Laws.Rows.{which, and_l, and_r, and_both}
use Rattle.meaning.proofs.Laws.Tells.{and_tells, or_tells, not_tells, cond_tells, implies_tells, some_tells, every_tells, eqb_tells, ltb_tells, leb_tells}
use Rattle.meaning.specs.Tables.{Tables, most_depth, literal_places}
use Rattle.meaning.specs.Tables.{state_count, timer_count, super_state, initial, cell, source, target, literal, pair_number, pair_state}
use Rattle.meaning.specs.Hierarchy.{depth, sub_state, is_leaf}
use Rattle.meaning.proofs.Laws.Hierarchy.{at_or_above_tells, sub_state_tells, leaf_tells, timer_runs_tells, depth_tells}
use Rattle.meaning.specs.Literals.{kind_of}
use Rattle.meaning.specs.Rules.{AtOrAbove, Leaf, TimerRuns, WithinCounts, SizeRule, HierarchyRule, InitialRule, PresetRule, PairRule, MoveRule, LiteralRule, IdleRule, OverlapRule, FlipFlopRule}
use Rattle.meaning.specs.Check.{size_passes, hierarchy_passes, initial_passes, preset_passes, pair_after, pair_passes, below, move_passes, within_counts, may_precede, place_passes, literal_passes, runs_below, idle_passes, overlap_passes, flip_flop_passes}
use Rattle.meaning.proofs.Laws.Overlap.{overlaps_tells}
use Rattle.meaning.specs.declared.Kind.{Kind}
use Rattle.meaning.specs.declared.Kind.TheVariants.{Unused, Input, Timer, Unknown}

-- ---- the checks in their order

-- 1 SIZE: the test of the sizes passes exactly where the rule is kept
pub size_tells : (c : Tables) → (size_passes c ≡ true) ↔ SizeRule c
unfolding size_passes
size_tells c = ((λ e. search (and_l, and_r, eqb-true, leb-true) depth 16), (λ r. search (and_both, eq-eqb, le-leb) depth 16))

-- 2 HIERARCHY: the test of a state passes exactly where the rule is kept; so for all below
pub hierarchy_tells : (c : Tables) (s : ℕ) → (hierarchy_passes c s ≡ true) ↔ HierarchyRule c s
unfolding hierarchy_passes
hierarchy_tells c s =
    let t = and_tells (cond_tells (eqb_tells s 0) (eqb_tells (super_state c s) 0) (ltb_tells (super_state c s) s)) (leb_tells (depth c s) most_depth) in (
      (λ e. record { root = (t.0 e).0.0; smaller = (t.0 e).0.1; shallow = (depth_tells c s).0 (t.0 e).1 }),
      (λ r. t.1 ((r.root, r.smaller), (depth_tells c s).1 r.shallow)),
    )

-- 3 INITIAL: of a state
pub initial_tells : (c : Tables) (s : ℕ) → (initial_passes c s ≡ true) ↔ InitialRule c s
unfolding initial_passes
initial_tells c s =
    let t = cond_tells (leaf_tells c s) (eqb_tells (initial c s) 0) (sub_state_tells c s (initial c s)) in
    ((λ e. record { of_leaf = (t.0 e).0; of_super = (t.0 e).1 }), (λ r. t.1 (r.of_leaf, r.of_super)))

-- "A state without sub-states is a leaf and has initial 0", and another has not
pub leaf_initial : (c : Tables) (s : ℕ) → initial_passes c s ≡ true → is_leaf c s ≡ eqb (initial c s) 0
unfolding initial_passes sub_state
leaf_initial c s e = elim (which (is_leaf c s)) [
  | inl f ↦ f ∙ sym (rw f at e)
  | inr f ↦ (let g : sub_state c s (initial c s) ≡ true = rw f at e in
      let h = ltb-true 0 (initial c s) (search (and_l, and_r)) in
      f ∙ sym (ne_eqb (initial c s) 0 (λ z. omega arith)))
]

-- 4 PRESET: of a timer
pub preset_tells : (c : Tables) (i : ℕ) → (preset_passes c i ≡ true) ↔ PresetRule c i
unfolding preset_passes
preset_tells c i = ((λ e. search (and_l, and_r, leb-true)), (λ r. search (and_both, le-leb)))

-- the pair of row i is above that of row j
pair_after_tells : (ps : List ℕ) (j i : ℕ) → (pair_after ps j i ≡ true) ↔ ((pair_number ps j < pair_number ps i) ⊎ ((pair_number ps j ≡ pair_number ps i) × (pair_state ps j < pair_state ps i)))
unfolding pair_after
pair_after_tells ps j i = or_tells (ltb_tells (pair_number ps j) (pair_number ps i)) (and_tells (eqb_tells (pair_number ps j) (pair_number ps i)) (ltb_tells (pair_state ps j) (pair_state ps i)))

-- 5 TIMER PAIR, 6 OUTPUT PAIR: of a pair
pub pair_tells : (c : Tables) (many : ℕ) (ps : List ℕ) (i : ℕ) → (pair_passes c many ps i ≡ true) ↔ PairRule c many ps i
unfolding pair_passes
pair_tells c many ps i =
    let order = or_tells (eqb_tells i 0) (pair_after_tells ps (i - 1) i) in
    let t = and_tells (and_tells (and_tells (leb_tells 1 (pair_number ps i)) (leb_tells (pair_number ps i) many)) (ltb_tells (pair_state ps i) (state_count c))) order in (
      (λ e. record {
        low = (t.0 e).0.0.0;
        high = (t.0 e).0.0.1;
        state = (t.0 e).0.1;
        ascending = λ j z. elim (t.0 e).1 [
          | inl y ↦ absurd (omega arith)
          | inr y ↦ (let q : j ≡ i - 1 = omega arith in rw q y)
        ];
      }),
      (λ r. t.1 (((r.low, r.high), r.state), elim (ℕ_discrete i 0) [ yes y ↦ inl y | no y ↦ inr (r.ascending (i - 1) (omega arith)) ])),
    )

-- a number of the moves table that names one of n things
below_tells : (n : ℕ) (z : ℤ) → (below n z ≡ true) ↔ ((k : ℕ) × (z ≡ pos k) × (k < n))
unfolding below
below_tells n (pos k) = ((λ e. (k, refl, ltb-true k n e)), (λ r. lt-ltb k n (omega (arith, ap nat_abs r.1, r.2))))
below_tells n (negsuc k) = ((λ e. absurd (false≢true e)), (λ r. cc r.1))

-- 7 MOVE: of a move
pub move_tells : (c : Tables) (i : ℕ) → (move_passes c i ≡ true) ↔ MoveRule c i
unfolding move_passes
move_tells c i =
    let mark = or_tells (below_tells 1 (cell c i 2)) (and_tells (below_tells 2 (cell c i 2)) (not_tells (leaf_tells c (target c i)))) in
    let t = and_tells (and_tells (below_tells (state_count c) (cell c i 0)) (below_tells (state_count c) (cell c i 1))) mark in (
      (λ e. record {
        from_known = (t.0 e).0.0;
        to_known = (t.0 e).0.1;
        marked = elim (t.0 e).1 [
          | inl y ↦ inl (y.1 ∙ ap pos (omega (arith, y.2)))
          | inr y ↦ elim (ℕ_discrete y.0.0 0) [ yes q ↦ inl (y.0.1 ∙ ap pos q) | no q ↦ inr (y.0.1 ∙ ap pos (omega (arith, y.0.2)), y.1) ]
        ];
      }),
      (λ r. t.1 ((r.from_known, r.to_known), elim r.marked [ inl y ↦ inl (0, y, omega arith) | inr y ↦ inr ((1, y.0, omega arith), y.1) ])),
    )

-- a literal within the counts
within_tells : (c : Tables) (k : Kind) → (within_counts c k ≡ true) ↔ WithinCounts c k
unfolding within_counts
within_tells c Unused = ((λ e. tt), (λ r. refl))
within_tells c (Input i) = leb_tells i c.inputs
within_tells c (Timer t) = leb_tells t (timer_count c)
within_tells c Unknown = (false≢true, absurd)

-- place j may stand before place k
may_precede_tells : (c : Tables) (i j k : ℕ) → (may_precede c i j k ≡ true) ↔ ((nat_abs (literal c i k) ≡ 0) ⊎ ((nat_abs (literal c i j) ≢ 0) × (nat_abs (literal c i j) ≢ nat_abs (literal c i k))))
unfolding may_precede
may_precede_tells c i j k = or_tells (eqb_tells _ 0) (and_tells (not_tells (eqb_tells _ 0)) (not_tells (eqb_tells _ _)))

-- only 0 has size 0
no_size : (z : ℤ) → nat_abs z ≡ 0 → z ≡ pos 0
no_size (pos n) e = ap pos e
no_size (negsuc n) e = absurd (omega (arith, e))

-- 8 LITERAL: of a move
pub literal_tells : (c : Tables) (i : ℕ) → (literal_passes c i ≡ true) ↔ LiteralRule c i
unfolding literal_passes place_passes
literal_tells c i =
    let t = every_tells literal_places (λ k z. and_tells (within_tells c (kind_of (nat_abs (literal c i k)))) (every_tells k (λ j h. may_precede_tells c i j k))) in (
      (λ e. record {
        known = λ j h. (t.0 e j h).0;
        only_zero = λ j k h z q. elim ((t.0 e k z).1 j h) [ inl y ↦ no_size _ y | inr y ↦ absurd (y.0 (ap nat_abs q)) ];
        once = λ j k h z n. elim ((t.0 e k z).1 j h) [ inl y ↦ absurd (n (no_size _ y)) | inr y ↦ y.1 ];
      }),
      (λ r. t.1 (λ k z. (
        r.known k z,
        λ j h. elim (ℕ_discrete (nat_abs (literal c i k)) 0) [
          | yes y ↦ inl y
          | no y ↦ inr ((λ q. y (ap nat_abs (r.only_zero j k h z (no_size _ q)))), r.once j k h z (λ q. y (ap nat_abs q)))
        ],
      ))),
    )

-- the timer of a literal runs in every leaf at or below s
runs_below_tells : (c : Tables) (s : ℕ) (k : Kind) → (runs_below c s k ≡ true) ↔ ((t : ℕ) → k ≡ Timer t → (l : ℕ) → l < state_count c → Leaf c l → AtOrAbove c s l → TimerRuns c t l)
unfolding runs_below
runs_below_tells c s Unused = ((λ e t q. absurd (false≢true (cc))), (λ r. refl))
runs_below_tells c s (Input i) = ((λ e t q. absurd (false≢true (cc))), (λ r. refl))
runs_below_tells c s (Timer t) =
    let h = every_tells (state_count c) (λ l z. implies_tells (and_tells (leaf_tells c l) (at_or_above_tells c s l)) (timer_runs_tells c t l)) in
    ((λ e n q l z f a. let y : n ≡ t = cc in rw y (h.0 e l z (f, a))), (λ r. h.1 (λ l z x. r t refl l z x.0 x.1)))
runs_below_tells c s Unknown = ((λ e t q. absurd (false≢true (cc))), (λ r. refl))

-- 9 IDLE TIMER: of a move
pub idle_tells : (c : Tables) (i : ℕ) → (idle_passes c i ≡ true) ↔ IdleRule c i
unfolding idle_passes
idle_tells c i =
    let t = every_tells literal_places (λ j h. runs_below_tells c (source c i) (kind_of (nat_abs (literal c i j)))) in
    ((λ e. record { run = λ j n h. t.0 e j h n }), (λ r. t.1 (λ j h n. r.run j n h)))

-- 10 OVERLAP: of a move, where LITERAL passes it and those before it
pub overlap_tells : (c : Tables) (i : ℕ) → ((j : ℕ) → j ≤ i → literal_passes c j ≡ true) → (overlap_passes c i ≡ true) ↔ OverlapRule c i
unfolding overlap_passes
overlap_tells c i h =
    let t = not_tells (some_tells i (λ j z. overlaps_tells c i j (h i (omega arith)) (h j (omega arith)))) in
    ((λ e. record { apart = λ j z o. t.0 e (j, z, o) }), (λ r. t.1 (λ o. r.apart o.0 o.1 o.2)))

-- 11 FLIP-FLOPS: of the tables
pub flip_flop_tells : (c : Tables) → (flip_flop_passes c ≡ true) ↔ FlipFlopRule c
unfolding flip_flop_passes
flip_flop_tells c = ((λ e. search leb-true), (λ r. search le-leb))
