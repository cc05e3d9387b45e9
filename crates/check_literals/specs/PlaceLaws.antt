-- The tests of LITERAL by what the places before need.
use Rattle.std.specs.Prelude.{◌≡◌, refl, ◌≢◌, ℕ, suc, ◌+◌, ◌<◌, ◌≤◌, Bool, ◌&&◌, ◌||◌, nat_abs}
use Rattle.std.proofs.Math.Path.{sym, ap₂}
use Rattle.std.proofs.Common.{ap, ◌∙◌, arith}
use Rattle.std.proofs.Math.Logic.{inl, inr}
use Rattle.std.proofs.Math.Bool.{true, false, not, and-false, or-false}
use Rattle.std.proofs.Math.Dec.{eqb}
use borrow.Author.Tests.{eq-eqb, ne_eqb, eqb-true, eqb-false, le-leb, lt-leb, not-true}
use Rattle.meaning.specs.Rows.{every}
use Rattle.meaning.proofs.Laws.Rows.{which, same_test, and_l, and_r, and_both, or_cases, or_l, or_r, false_not, false_by, not_both, some_no, some_none, some_more, every_yes, every_intro}
use Rattle.meaning.proofs.Laws.Needs.{size_as, input_sized, timer_sized, stands_in, stands_by, stands_in_lem}
use Rattle.meaning.specs.Tables.{Tables, timer_count, literal}
use Rattle.meaning.specs.Literals.{timer_offset, kind_of, wanted, input_on}
use Rattle.meaning.specs.Needs.{Things, named, named_at, wants, needed_by}
use Rattle.meaning.specs.Check.{within_counts, may_precede, place_passes}
use Rattle.meaning.specs.declared.Kind.{Kind}
use Rattle.meaning.specs.declared.Kind.TheVariants.{Unused, Input, Timer, Unknown}
use Rattle.check_needs.specs.declared.ThingWords as W
use Rattle.check_needs.specs.Words.{WordBits, with_named}
use Rattle.check_needs.specs.WordsLaws.{named_more}
use Rattle.check_literals.specs.declared.PlacesSoFar.{PlacesSoFar}
use Rattle.check_literals.specs.Places.{is_unused, some_unused, PlacesRead, ThingMore, PlaceMore}

-- what may stand before place k
module _ (c : Tables) (i k : ℕ) where
  -- an unused place
  pub zero_may_follow : nat_abs (literal c i k) ≡ 0 → every (λ j. may_precede c i j k) 0 k ≡ true
  unfolding may_precede
  zero_may_follow e = every_intro (λ j. may_precede c i j k) k (λ j h. rw (eq-eqb (nat_abs (literal c i k)) 0 e))

  -- one that is used: no unused place before it, and nothing of its size, of whichever class
  module _ (has : Things → Bool) (n : ℕ) (sees : (x : ℕ) → has (named (kind_of x)) ≡ eqb x n) (e : nat_abs (literal c i k) ≡ n) (z : n ≢ 0) where
    abbrev may_stand : Bool
    may_stand = not (some_unused c i k) && not (stands_in c i k true has || stands_in c i k false has)

    size : ℕ → ℕ
    size j = nat_abs (literal c i j)

    seen : (j : ℕ) → j < k → size j ≡ n → (stands_in c i k true has || stands_in c i k false has) ≡ false → ⊥
    unfolding size
    seen j h d v = let s : has (named_at c i j) ≡ true = sees (size j) ∙ eq-eqb (size j) n d in elim (which (wanted (literal c i j))) [
      | inl w ↦ not_both v (or_l _ (stands_in c i k false has) (stands_in_lem c i k true has j h w s))
      | inr w ↦ not_both v (or_r (stands_in c i k true has) _ (stands_in_lem c i k false has j h w s))
    ]

    there : may_stand ≡ true → every (λ j. may_precede c i j k) 0 k ≡ true
    unfolding may_precede size
    there f =
        let u = not-true (some_unused c i k) (and_l _ _ f) in
        let v = not-true (stands_in c i k true has || stands_in c i k false has) (and_r (not (some_unused c i k)) _ f) in
        every_intro (λ j. may_precede c i j k) k (λ j h.
        or_r (eqb (size k) 0) _ (and_both _ _ (false_not (eqb (size j) 0) (some_no (λ m. eqb (size m) 0) 0 k u j (omega arith) (omega arith)))
        (false_not (eqb (size j) (size k)) (ne_eqb (size j) (size k) (λ d. seen j h (d ∙ e) v)))))

    back : every (λ j. may_precede c i j k) 0 k ≡ true → may_stand ≡ true
    unfolding may_precede size
    back f = and_both _ _
        (false_not (some_unused c i k) (some_none (λ j. eqb (size j) 0) 0 k (λ j p h. not-true (eqb (size j) 0) (and_l _ (not (eqb (size j) (size k))) (used j h)))))
        (false_not (stands_in c i k true has || stands_in c i k false has) (none_of (unseen true) (unseen false)))
      where
        used : (j : ℕ) → j < 0 + k → (not (eqb (size j) 0) && not (eqb (size j) (size k))) ≡ true
        used j h = elim (or_cases (eqb (size k) 0) (not (eqb (size j) 0) && not (eqb (size j) (size k))) (every_yes (λ m. may_precede c i m k) k f j (omega arith))) [
          | inl d ↦ absurd (z (sym e ∙ eqb-true (size k) 0 d))
          | inr d ↦ d
        ]

        unseen : (b : Bool) → stands_in c i k b has ≡ false
        unseen b = false_by (stands_in c i k b has) (λ d.
            let r = stands_by c i k b has d in
            let y : size r.0 ≡ size k = eqb-true (size r.0) n (sym (sees (size r.0)) ∙ r.3) ∙ sym e in
            not_both (not-true (eqb (size r.0) (size k)) (and_r (not (eqb (size r.0) 0)) _ (used r.0 (omega (arith, r.1))))) (eq-eqb (size r.0) (size k) y))

        none_of : {x y : Bool} → x ≡ false → y ≡ false → (x || y) ≡ false
        none_of p q = rw (p, q)

    pub may_follow : may_stand ≡ every (λ j. may_precede c i j k) 0 k
    may_follow = same_test may_stand (every (λ j. may_precede c i j k) 0 k) there back

-- a literal of a kind, given what those before it need
module _ (c : Tables) (i k : ℕ) (a : PlacesSoFar) (h : PlacesRead c i k a) where
  pub unused_passes : kind_of (nat_abs (literal c i k)) ≡ Unused → true ≡ place_passes c i k
  unfolding place_passes within_counts
  unused_passes e = rw e (sym (zero_may_follow c i k (size_as (nat_abs (literal c i k)) Unused e)))

  pub unknown_fails : kind_of (nat_abs (literal c i k)) ≡ Unknown → false ≡ place_passes c i k
  unfolding place_passes within_counts
  unknown_fails e = rw e

  module _ (n : ℕ) where
    pub input_passes : kind_of (nat_abs (literal c i k)) ≡ Input n → n ≤ c.inputs → (not a.ended && not (input_on a.needs.on.inputs n || input_on a.needs.off.inputs n)) ≡ place_passes c i k
    unfolding place_passes within_counts needed_by
    input_passes e l =
        let z = size_as (nat_abs (literal c i k)) (Input n) e in
        rw (e, le-leb n c.inputs l, h.end, h.words.on.inputs n z.1 z.2, h.words.off.inputs n z.1 z.2)
        (may_follow c i k (λ s. s.inputs n) n (λ x. input_sized x n z.1 z.2) z.0 (λ x. omega (arith, z.1, x)))

    pub input_fails : kind_of (nat_abs (literal c i k)) ≡ Input n → c.inputs < n → false ≡ place_passes c i k
    unfolding place_passes within_counts
    input_fails e l = rw (e, lt-leb n c.inputs l)

    pub timer_passes_lem : kind_of (nat_abs (literal c i k)) ≡ Timer n → n ≤ timer_count c → (not a.ended && not (input_on a.needs.on.timers n || input_on a.needs.off.timers n)) ≡ place_passes c i k
    unfolding place_passes within_counts needed_by
    timer_passes_lem e l =
        let z = size_as (nat_abs (literal c i k)) (Timer n) e in
        let g : n ≤ 64 = omega (arith, z.2) in
        rw (e, le-leb n (timer_count c) l, h.end, h.words.on.timers n z.1 g, h.words.off.timers n z.1 g)
        (may_follow c i k (λ s. s.timers n) (timer_offset + n) (λ x. timer_sized x n z.1 z.2) z.0 (λ x. omega (arith, x)))

    pub timer_fails : kind_of (nat_abs (literal c i k)) ≡ Timer n → timer_count c < n → false ≡ place_passes c i k
    unfolding place_passes within_counts
    timer_fails e l = rw (e, lt-leb n (timer_count c) l)

-- ---- one place more

-- only 0 is unused
unused_size : (n : ℕ) → is_unused (kind_of n) ≡ eqb n 0
unfolding kind_of
unused_size n = elim (which (eqb n 0)) [
  | inl e ↦ rw (kind_of, e)
  | inr e ↦ go (kind_of n) refl (eqb-false n 0 e) ∙ sym e
]
  where
    go : (K : Kind) → kind_of n ≡ K → n ≢ 0 → is_unused K ≡ false
    go Unused e z = absurd (z (size_as n Unused e))
    go (Input m) e z = refl
    go (Timer m) e z = refl
    go Unknown e z = refl

module _ (c : Tables) (i k : ℕ) where
  -- one class
  more : (w v : ℕ) (b : Bool) (has : Things → ℕ → Bool) → WordBits w (λ n. stands_in c i k b (λ s. has s n))
      → WordBits v (λ n. input_on w n || (wants c i k b && has (named_at c i k) n)) → WordBits v (λ n. stands_in c i (suc k) b (λ s. has s n))
  more w v b has h g n p q = g n p q ∙ ap (λ t. t || (wants c i k b && has (named_at c i k) n)) (h n p q) ∙ sym (some_more (λ j. wants c i j b && has (named_at c i j) n) k)

  pub one_more : (a r : PlacesSoFar) → PlacesRead c i k a → PlaceMore a (wanted (literal c i k)) (kind_of (nat_abs (literal c i k))) r → PlacesRead c i (suc k) r
  unfolding needed_by
  one_more a r h d = record {
    words = record {
      on = record {
        inputs = more a.needs.on.inputs r.needs.on.inputs true (λ s. s.inputs) h.words.on.inputs d.on.inputs;
        timers = more a.needs.on.timers r.needs.on.timers true (λ s. s.timers) h.words.on.timers d.on.timers;
      };
      off = record {
        inputs = more a.needs.off.inputs r.needs.off.inputs false (λ s. s.inputs) h.words.off.inputs d.off.inputs;
        timers = more a.needs.off.timers r.needs.off.timers false (λ s. s.timers) h.words.off.timers d.off.timers;
      };
    };
    end = d.end ∙ ap₂ (λ x y. x || y) h.end (unused_size (nat_abs (literal c i k))) ∙ sym (some_more (λ j. eqb (nat_abs (literal c i j)) 0) k);
  }

-- ---- a set with what a literal names, or as it was

pub thing_more : (a r : W.ThingWords) (K : Kind) → r ≡ with_named a K → ThingMore a true K r
thing_more a r K e = rw e (let m = named_more a K in record { inputs = m.inputs; timers = m.timers })

pub thing_same : (a : W.ThingWords) (K : Kind) → ThingMore a false K a
thing_same a K = record { inputs = λ n h g. sym (or-false (input_on a.inputs n)); timers = λ n h g. sym (or-false (input_on a.timers n)) }

-- an unused place names nothing
pub thing_unused : (a : W.ThingWords) (b : Bool) → ThingMore a b Unused a
unfolding named
thing_unused a b = record {
  inputs = λ n h g. sym (ap (λ t. input_on a.inputs n || t) (and-false b) ∙ or-false (input_on a.inputs n));
  timers = λ n h g. sym (ap (λ t. input_on a.timers n || t) (and-false b) ∙ or-false (input_on a.timers n));
}
