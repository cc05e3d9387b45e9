-- Laws of Words.antt: words meet exactly where their sets do, so they clash exactly where the moves do and hold exactly
-- where the literals hold; and a move's words in a slice.
use Rattle.std.specs.Prelude.{◌≡◌, refl, ◌≢◌, Bool, true, false, not, ◌&&◌, ◌||◌, List, length, get_or, set, eqb, leb, nat_abs}
use Rattle.std.proofs.Common.{sym, ap, ap₂, ◌∙◌, inl, inr, true≢false, length-set, get_or-set_same, get_or-set_other}
use Prim.Native.Nat.{ℕ, zero, suc, ◌+◌, ◌*◌, ◌-◌, ◌/◌, ◌^◌, ◌<◌, ◌≤◌}
use native.Mathlib.Omega.{arith}
use Rattle.std.proofs.Math.Decide.{ℕ_discrete}
use Rattle.std.proofs.Math.Bool.{or-false}
use Rattle.std.specs.Int.Bits.{bit_and}
use Rattle.std.proofs.lemmas.Nat.{and_le_l, and_le_r}
use borrow.Author.Tests.{eq-eqb, eqb-true, ne_eqb, not-true, not-false, leb-true, le-leb}
use Rattle.std.proofs.Math.Decide.{dec_le}
use borrow.Author.Tests.{le-ltb}
use Rattle.meaning.specs.Rows.{least, some, most64}
use Rattle.meaning.proofs.Laws.Rows.{which, same_test, and_l, and_r, and_both, false_by, false_not, not_both, some_yes, some_intro, least_to, least_before, least_passes}
use Rattle.meaning.proofs.Laws.Bits.{or_bit, and_bit, no_bit, other_bit, same_bits}
use Rattle.meaning.proofs.Laws.Needs.{inputs_known, timers_known, Fits, holds_fits, fits_holds}
use Rattle.meaning.specs.Once.{Words64}
use Rattle.meaning.specs.Tables.{Tables, literal_places, literal}
use Rattle.meaning.specs.Literals.{between, kind_of, input_on, literals_hold}
use Rattle.meaning.specs.Check.{within_counts}
use Rattle.meaning.specs.Needs as N
use Rattle.meaning.specs.declared.Kind.{Kind}
use Rattle.meaning.specs.declared.Kind.TheVariants.{Unused, Input, Timer, Unknown}
use Rattle.slices.specs.Numbers.{with_number}
use Rattle.slices.specs.NumbersLaws.{numbered}
use Rattle.check_needs.specs.declared.ThingWords.{ThingWords}
use Rattle.check_needs.specs.declared.Needs.{Needs}
use Rattle.check_needs.specs.Words.{WordBits, InWords, set_of, with_named, union_words, others, meets, meet_words, clash_words, hold_words, NeedWords, no_needs, need_words, needs_at, needs_put, clash_at, first_apart, WordsAt, WordsTo}

-- ---- one class of things, whichever

-- a word with number n too, whether a word has a bit for it or not
pub with_number_lem : (r w n : ℕ) → r ≡ with_number w n → WordBits r (λ m. input_on w m || eqb n m)
unfolding with_number
with_number_lem r w n e m h k = elim (which (between 1 64 n)) [
  | inl f ↦ numbered r w n m e (leb-true 1 n (and_l _ _ f)) (leb-true n 64 (and_r (leb 1 n) _ f)) h
  | inr f ↦ rw (e, f, ne_eqb n m (λ z. not_both f (and_both (leb 1 n) (leb n 64) (le-leb 1 n (omega arith)) (le-leb n 64 (omega arith))))) (sym (or-false (input_on w m)))
]

-- words meet exactly where their numbers do
module _ (x y m : ℕ) (f g : ℕ → Bool) (small : bit_and x y < 2 ^ 64) (X : WordBits x f) (Y : WordBits y g)
    (wide : m ≤ 64) (few : (n : ℕ) → n ≤ 64 → f n ≡ true → n ≤ m) where
  abbrev both : ℕ → Bool
  both n = f n && g n

  bit : (n : ℕ) → 1 ≤ n → n ≤ 64 → input_on (bit_and x y) n ≡ both n
  bit n h k = and_bit x y n ∙ ap₂ (λ a b. a && b) (X n h k) (Y n h k)

  meets_some : meets x y ≡ true → some both 1 m ≡ true
  meets_some e = elim (which (some both 1 m)) [
    | inl d ↦ d
    | inr d ↦ absurd (not_both (not-true (eqb (bit_and x y) 0) e) (eq-eqb (bit_and x y) 0 (same_bits 64 (bit_and x y) 0 small (omega arith) (λ n h. none d (suc n) (omega arith) (omega arith) ∙ sym (no_bit (suc n))))))
  ]
    where
      none : some both 1 m ≡ false → (n : ℕ) → 1 ≤ n → n ≤ 64 → input_on (bit_and x y) n ≡ false
      none d n h k = bit n h k ∙ false_by (both n) (λ z. not_both d (some_intro both 1 m n h (omega (arith, few n k (and_l (f n) (g n) z))) z))

  some_meets : some both 1 m ≡ true → meets x y ≡ true
  some_meets e = let r = some_yes both 1 m e in
      false_not (eqb (bit_and x y) 0) (false_by _ (λ z. true≢false (sym r.3 ∙ sym (bit r.0 r.1 (omega (arith, r.2))) ∙ ap (λ w. input_on w r.0) (eqb-true (bit_and x y) 0 z) ∙ no_bit r.0)))

  pub words_meet : meets x y ≡ some both 1 m
  words_meet = same_test (meets x y) (some both 1 m) meets_some some_meets

-- words without a common number: what the one has the other has not
pub apart : (x y n : ℕ) → meets x y ≡ false → input_on x n ≡ true → input_on y n ≡ false
apart x y n e h = false_by (input_on y n) (λ f. true≢false (sym (and_both (input_on x n) (input_on y n) h f) ∙ sym (and_bit x y n)
    ∙ ap (λ w. input_on w n) (eqb-true (bit_and x y) 0 (not-false (eqb (bit_and x y) 0) e)) ∙ no_bit n))

-- and words of which that is so have none
pub none_common : (x y : ℕ) → y < 2 ^ 64 → ((n : ℕ) → 1 ≤ n → n ≤ 64 → input_on x n ≡ true → input_on y n ≡ false) → meets x y ≡ false
none_common x y small h = false_by (meets x y) (λ e.
    let r = some_yes (λ n. input_on x n && input_on y n) 1 64 (sym (words_meet x y 64 (input_on x) (input_on y) (omega (arith, and_le_r x y)) (λ n a b. refl) (λ n a b. refl) (omega arith) (λ n a b. a)) ∙ e) in
    not_both (h r.0 r.1 (omega (arith, r.2)) (and_l _ _ r.3)) (and_r (input_on x r.0) _ r.3))

-- the numbers that a word has not
pub others_on : (x n : ℕ) → x < 2 ^ 64 → 1 ≤ n → n ≤ 64 → input_on (most64 - x) n ≡ not (input_on x n)
others_on x n h k l = let e : suc (n - 1) ≡ n = omega arith in rw e at (other_bit 64 x (n - 1) h (omega arith))

-- ---- all classes

-- words of 64 bits
pub record Small (w : ThingWords) : Type 0 where
  pub inputs : w.inputs < 2 ^ 64
  pub timers : w.timers < 2 ^ 64

pub record SmallNeeds (a : Needs) : Type 0 where
  pub on : Small a.on
  pub off : Small a.off

-- the words of a move's set meet others exactly where the sets do
pub meet_words_lem : (c : Tables) (i k : ℕ) (w : Bool) (u : N.Things) (x y : ThingWords) → Small x → InWords x (N.needed_by c i k w) → InWords y u → meet_words x y ≡ N.meet (N.needed_by c i k w) u
unfolding N.meet
meet_words_lem c i k w u x y small X Y = ap₂ (λ a b. a || b)
    (words_meet x.inputs y.inputs 64 (N.needed_by c i k w).inputs u.inputs (omega (arith, and_le_l x.inputs y.inputs, small.inputs)) X.inputs Y.inputs (omega arith) (λ n h e. h))
    (words_meet x.timers y.timers 32 (N.needed_by c i k w).timers u.timers (omega (arith, and_le_l x.timers y.timers, small.timers)) X.timers Y.timers (omega arith) (λ n h e. (timers_known c i k w n e).1))

-- ---- what moves need

-- by sets, or by classes
by_class : (p q r s : Bool) → ((p || q) || (r || s)) ≡ ((p || r) || (q || s))
by_class true q r s = refl
by_class false true true s = refl
by_class false true false s = refl
by_class false false r s = refl

pub clash_words_lem : (c : Tables) (i j : ℕ) (a b : Needs) → Small a.on → Small b.on → NeedWords c i literal_places a → NeedWords c j literal_places b → clash_words a b ≡ N.clash c i j
unfolding N.clash
clash_words_lem c i j a b s t A B =
    by_class (meets a.on.inputs b.off.inputs) (meets b.on.inputs a.off.inputs) (meets a.on.timers b.off.timers) (meets b.on.timers a.off.timers)
    ∙ ap₂ (λ x y. x || y)
    (meet_words_lem c i literal_places true (N.needs_off c j) a.on b.off s A.on B.off)
    (meet_words_lem c j literal_places true (N.needs_off c i) b.on a.off t B.on A.off)

-- one class, of which `in` says what is needed on and off: with just v on, all that is so
module _ (on off v : ℕ) (in' : Bool → ℕ → Bool) (known : (w : Bool) (n : ℕ) → in' w n ≡ true → (1 ≤ n) × (n ≤ 64))
    (small : v < 2 ^ 64) (O : WordBits on (in' true)) (F : WordBits off (in' false)) where
  class_fits : meets off v ≡ false → meets on (most64 - v) ≡ false → (w : Bool) (n : ℕ) → in' w n ≡ true → input_on v n ≡ w
  class_fits p q true n e = let k = known true n e in
      not-false (input_on v n) (sym (others_on v n small k.0 k.1) ∙ apart on (most64 - v) n q (O n k.0 k.1 ∙ e))
  class_fits p q false n e = let k = known false n e in apart off v n p (F n k.0 k.1 ∙ e)

  class_apart : ((w : Bool) (n : ℕ) → in' w n ≡ true → input_on v n ≡ w) → meets off v ≡ false
  class_apart e = none_common off v small (λ n a b z. e false n (sym (F n a b) ∙ z))

  class_within : ((w : Bool) (n : ℕ) → in' w n ≡ true → input_on v n ≡ w) → meets on (most64 - v) ≡ false
  class_within e = none_common on (most64 - v) (omega arith) (λ n a b z. others_on v n small a b ∙ ap not (e true n (sym (O n a b) ∙ z)))

-- two tests neither of which passes
none_l : (x y : Bool) → (x || y) ≡ false → x ≡ false
none_l true y e = e
none_l false y e = refl

none_r : (x y : Bool) → (x || y) ≡ false → y ≡ false
none_r true y e = absurd (true≢false e)
none_r false y e = e

none_of : {x y : Bool} → x ≡ false → y ≡ false → (x || y) ≡ false
none_of p q = rw (p, q)

module _ (c : Tables) (i : ℕ) (known : (j : ℕ) → j < literal_places → within_counts c (kind_of (nat_abs (literal c i j))) ≡ true)
    (a : Needs) (v : ThingWords) (sv : Small v) (A : NeedWords c i literal_places a) where
  ins : Bool → ℕ → Bool
  ins w = (N.needed_by c i literal_places w).inputs

  tims : Bool → ℕ → Bool
  tims w = (N.needed_by c i literal_places w).timers

  timers_known_64 : (w : Bool) (n : ℕ) → tims w n ≡ true → (1 ≤ n) × (n ≤ 64)
  unfolding tims
  timers_known_64 w n e = let k = timers_known c i literal_places w n e in (k.0, omega (arith, k.1))

  hold_there : hold_words a v ≡ true → Fits c (N.just_on (set_of v)) i
  unfolding ins tims
  hold_there h =
      let p = not-true (meet_words a.off v) (and_l _ _ h) in
      let q = not-true (meet_words a.on (others v)) (and_r (not (meet_words a.off v)) _ h) in
      record {
        inputs = class_fits a.on.inputs a.off.inputs v.inputs ins (inputs_known c i literal_places) sv.inputs A.on.inputs A.off.inputs
            (none_l (meets a.off.inputs v.inputs) (meets a.off.timers v.timers) p) (none_l (meets a.on.inputs (others v).inputs) (meets a.on.timers (others v).timers) q);
        timers = class_fits a.on.timers a.off.timers v.timers tims timers_known_64 sv.timers A.on.timers A.off.timers
            (none_r (meets a.off.inputs v.inputs) (meets a.off.timers v.timers) p) (none_r (meets a.on.inputs (others v).inputs) (meets a.on.timers (others v).timers) q);
      }

  hold_back : Fits c (N.just_on (set_of v)) i → hold_words a v ≡ true
  unfolding ins tims
  hold_back f = and_both _ _
      (false_not (meet_words a.off v) (none_of
      (class_apart a.on.inputs a.off.inputs v.inputs ins (inputs_known c i literal_places) sv.inputs A.on.inputs A.off.inputs f.inputs)
      (class_apart a.on.timers a.off.timers v.timers tims timers_known_64 sv.timers A.on.timers A.off.timers f.timers)))
      (false_not (meet_words a.on (others v)) (none_of
      (class_within a.on.inputs a.off.inputs v.inputs ins (inputs_known c i literal_places) sv.inputs A.on.inputs A.off.inputs f.inputs)
      (class_within a.on.timers a.off.timers v.timers tims timers_known_64 sv.timers A.on.timers A.off.timers f.timers)))

  -- the words hold exactly where the literals do
  pub hold_words_lem : hold_words a v ≡ literals_hold c (N.just_on (set_of v)) i
  hold_words_lem = same_test (hold_words a v) (literals_hold c (N.just_on (set_of v)) i)
      (λ h. fits_holds c (N.just_on (set_of v)) i known (hold_there h)) (λ h. hold_back (holds_fits c (N.just_on (set_of v)) i h))

-- ---- in a slice

-- those of another move stay
put_other : (l : List ℕ) (i : ℕ) (w : Needs) (k : ℕ) → k ≢ need_words * i → k ≢ need_words * i + 1 → k ≢ need_words * i + 2 → k ≢ need_words * i + 3
    → get_or (needs_put l i w) k 0 ≡ get_or l k 0
put_other l i w k a b d e =
    let u : List ℕ = set l (need_words * i) w.on.inputs in
    let v : List ℕ = set u (need_words * i + 1) w.on.timers in
    get_or-set_other (set v (need_words * i + 2) w.off.inputs) (need_words * i + 3) k w.off.timers 0 e ∙ get_or-set_other v (need_words * i + 2) k w.off.inputs 0 d
    ∙ get_or-set_other u (need_words * i + 1) k w.on.timers 0 b ∙ get_or-set_other l (need_words * i) k w.on.inputs 0 a

words_other : (c : Tables) (l : List ℕ) (i : ℕ) (w : Needs) (k : ℕ) → k ≢ i → WordsAt c k l → WordsAt c k (needs_put l i w)
words_other c l i w k n = rw (
  put_other l i w (need_words * k) (λ e. n (omega arith)) (λ e. n (omega arith)) (λ e. n (omega arith)) (λ e. n (omega arith)),
  put_other l i w (need_words * k + 1) (λ e. n (omega arith)) (λ e. n (omega arith)) (λ e. n (omega arith)) (λ e. n (omega arith)),
  put_other l i w (need_words * k + 2) (λ e. n (omega arith)) (λ e. n (omega arith)) (λ e. n (omega arith)) (λ e. n (omega arith)),
  put_other l i w (need_words * k + 3) (λ e. n (omega arith)) (λ e. n (omega arith)) (λ e. n (omega arith)) (λ e. n (omega arith)),
) (λ x. x)

words_own : (c : Tables) (l : List ℕ) (i : ℕ) (a : Needs) → need_words * i + 3 < length l → NeedWords c i literal_places a → WordsAt c i (needs_put l i a)
words_own c l i a h =
    let p = a.on.inputs in
    let q = a.on.timers in
    let r = a.off.inputs in
    let s = a.off.timers in
    let w : List ℕ = set l (need_words * i) p in
    let v : List ℕ = set w (need_words * i + 1) q in
    let u : List ℕ = set v (need_words * i + 2) r in
    let lw : length w ≡ length l = length-set l (need_words * i) p in
    let lv : length v ≡ length l = length-set w (need_words * i + 1) q ∙ lw in
    let lu : length u ≡ length l = length-set v (need_words * i + 2) r ∙ lv in
    rw (
      get_or-set_other u (need_words * i + 3) (need_words * i) s 0 (λ e. omega arith),
      get_or-set_other v (need_words * i + 2) (need_words * i) r 0 (λ e. omega arith),
      get_or-set_other w (need_words * i + 1) (need_words * i) q 0 (λ e. omega arith),
      get_or-set_same l (need_words * i) p 0 (omega arith),
      get_or-set_other u (need_words * i + 3) (need_words * i + 1) s 0 (λ e. omega arith),
      get_or-set_other v (need_words * i + 2) (need_words * i + 1) r 0 (λ e. omega arith),
      get_or-set_same w (need_words * i + 1) q 0 (omega (arith, lw)),
      get_or-set_other u (need_words * i + 3) (need_words * i + 2) s 0 (λ e. omega arith),
      get_or-set_same v (need_words * i + 2) r 0 (omega (arith, lv)),
      get_or-set_same u (need_words * i + 3) s 0 (omega (arith, lu)),
    ) (λ x. x)

-- one move more
pub words_more : (c : Tables) (l : List ℕ) (i : ℕ) (w : Needs) → i < length l / need_words → NeedWords c i literal_places w → WordsTo c i l → WordsTo c (suc i) (needs_put l i w)
words_more c l i a h w t k g = elim (ℕ_discrete k i) [
  | yes e ↦ rw e (words_own c l i a (omega arith) w)
  | no e ↦ words_other c l i a k e (t k (omega arith))
]

-- what stands in a slice of words is
pub small_at : (l : List ℕ) → Words64 l → (i : ℕ) → SmallNeeds (needs_at l i)
small_at l h i = record {
  on = record { inputs = h (need_words * i); timers = h (need_words * i + 1) };
  off = record { inputs = h (need_words * i + 2); timers = h (need_words * i + 3) };
}

-- ---- the first move without a clash

least_from : (p : ℕ → Bool) (i n : ℕ) → i ≤ least p i n
unfolding least
least_from p i zero = omega arith
least_from p i (suc n) = elim (which (p i)) [ inl e ↦ rw (least, e) (omega arith) | inr e ↦ rw (least, e) (omega (arith, least_from p (suc i) n)) ]

module _ (l : List ℕ) (a : Needs) (i n : ℕ) where
  pub apart_skip : i < n → clash_at l a i ≡ true → first_apart l a i n ≡ first_apart l a (suc i) n
  unfolding least
  apart_skip h e = let z : n - i ≡ suc (n - suc i) = omega arith in rw (z, least, e)

  pub apart_here : i < n → clash_at l a i ≡ false → first_apart l a i n ≡ i
  unfolding least
  apart_here h e = let z : n - i ≡ suc (n - suc i) = omega arith in rw (z, least, e)

  pub apart_end : n ≤ i → first_apart l a i n ≡ i
  unfolding least
  apart_end h = let z : n - i ≡ 0 = omega arith in rw z

  -- a move past the end of the words clashes with none
  pub apart_past : (i < n → length l / need_words ≤ i) → first_apart l a i n ≡ i
  apart_past h = elim (dec_le n i) [
    | yes e ↦ apart_end e
    | no e ↦ (let f : i < n = omega arith in apart_here f (rw (le-ltb i (length l / need_words) (h f))))
  ]

  -- those passed over clash, the one found does not
  pub apart_from : (r : ℕ) → r ≡ first_apart l a i n → i ≤ r
  apart_from r e = omega (arith, e, least_from (λ j. not (clash_at l a j)) i (n - i))

  pub apart_found : (r : ℕ) → i ≤ n → r ≡ first_apart l a i n
      → (r ≤ n) × ((m : ℕ) → i ≤ m → m < r → clash_at l a m ≡ true) × (r < n → clash_at l a r ≡ false)
  apart_found r h e = (
    omega (arith, e, least_to (λ j. not (clash_at l a j)) i (n - i)),
    (λ m f g. not-false (clash_at l a m) (least_before (λ j. not (clash_at l a j)) i (n - i) m f (omega (arith, e, g)))),
    (λ g. rw e (not-true (clash_at l a (first_apart l a i n)) (least_passes (λ j. not (clash_at l a j)) i (n - i) (omega (arith, e, g))))),
  )

-- ---- one literal more

pub no_needs_lem : (c : Tables) (i : ℕ) → NeedWords c i 0 no_needs
unfolding N.needed_by some
no_needs_lem c i = record { on = record { inputs = λ n h g. no_bit n; timers = λ n h g. no_bit n }; off = record { inputs = λ n h g. no_bit n; timers = λ n h g. no_bit n } }

-- a set and what a literal names
pub named_more : (a : ThingWords) (K : Kind) → InWords (with_named a K) (N.union (set_of a) (N.named K))
unfolding N.named
named_more a Unused = record { inputs = λ m h g. sym (or-false _); timers = λ m h g. sym (or-false _) }
named_more a (Input n) = record { inputs = with_number_lem _ a.inputs n refl; timers = λ m h g. sym (or-false _) }
named_more a (Timer n) = record { inputs = λ m h g. sym (or-false _); timers = with_number_lem _ a.timers n refl }
named_more a Unknown = record { inputs = λ m h g. sym (or-false _); timers = λ m h g. sym (or-false _) }

-- the words of a union
pub union_words_lem : (a b : ThingWords) (s t : N.Things) → InWords a s → InWords b t → InWords (union_words a b) (N.union s t)
union_words_lem a b s t A B = record {
  inputs = λ n h k. or_bit a.inputs b.inputs n ∙ ap₂ (λ x y. x || y) (A.inputs n h k) (B.inputs n h k);
  timers = λ n h k. or_bit a.timers b.timers n ∙ ap₂ (λ x y. x || y) (A.timers n h k) (B.timers n h k);
}
