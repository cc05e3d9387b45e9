-- Laws of tests joined by `&&` and `||`, of Rows.antt, and of lists.
use Rattle.std.specs.Prelude.{◌≡◌, refl, ◌≢◌, ◌⊎◌, ℕ, zero, suc, ◌+◌, ◌≤◌, ◌<◌, Bool, true, false, not, cond, ◌&&◌, ◌||◌, length, get_or, set, replicate}
use Rattle.std.proofs.Common.{sym, ap, ◌∙◌, inl, inr, lt_of_lt_of_le, add-zero, suc-add, add-suc, arith, true≢false}
use Rattle.std.proofs.Math.Decide.{ℕ_discrete, dec_le}
use Rattle.std.proofs.lemmas.Bool.{false≢true, not-true, not-false}
use mathlib.Core.List.{List, [], ◌∷◌, ◌++◌, flat_map, append-nil, append_assoc}
use Rattle.std.proofs.lemmas.List.{length-replicate, get_or-replicate}
use Rattle.std.proofs.Math.ListN.{get_or-eq_default}
use Rattle.std.proofs.lemmas.List.Edits.{sets}
use Rattle.std.proofs.Math.Seq.{set_out}
use Rattle.meaning.specs.Rows.{least, some, every, count, table}

-- ---- tests

pub which : (b : Bool) → (b ≡ true) ⊎ (b ≡ false)
which true = inl refl
which false = inr refl

pub and_l : (a b : Bool) → (a && b) ≡ true → a ≡ true
and_l true b e = refl
and_l false b e = e

pub and_r : (a b : Bool) → (a && b) ≡ true → b ≡ true
and_r true b e = e
and_r false b e = absurd (false≢true e)

pub and_both : (a b : Bool) → a ≡ true → b ≡ true → (a && b) ≡ true
and_both a b p q = rw (p, q)

pub or_cases : (a b : Bool) → (a || b) ≡ true → (a ≡ true) ⊎ (b ≡ true)
or_cases true b e = inl refl
or_cases false b e = inr e

pub or_l : (a b : Bool) → a ≡ true → (a || b) ≡ true
or_l a b p = rw p

pub or_r : (a b : Bool) → b ≡ true → (a || b) ≡ true
or_r true b p = refl
or_r false b p = p

pub true_not : (b : Bool) → b ≡ true → not b ≡ false
true_not b e = rw e

pub false_not : (b : Bool) → b ≡ false → not b ≡ true
false_not b e = rw e

-- a test that may not pass fails
pub false_by : (b : Bool) → (b ≡ true → ⊥) → b ≡ false
false_by true n = absurd (n refl)
false_by false n = refl

-- no test both fails and passes
pub not_both : {b : Bool} → b ≡ false → b ≡ true → ⊥
not_both e f = false≢true (sym e ∙ f)

-- a test as a number
pub bit_small : (b : Bool) → cond b 1 0 ≤ 1
bit_small true = omega arith
bit_small false = omega arith

-- two tests that pass together are one
pub same_test : (a b : Bool) → (a ≡ true → b ≡ true) → (b ≡ true → a ≡ true) → a ≡ b
same_test true b f g = sym (f refl)
same_test false true f g = g refl
same_test false false f g = refl

-- ---- some and every

pub some_no : (p : ℕ → Bool) (i n : ℕ) → some p i n ≡ false → (k : ℕ) → i ≤ k → k < i + n → p k ≡ false
unfolding some
some_no p i zero e k a b = absurd (omega arith)
some_no p i (suc n) e k a b = elim (which (p i)) [
  | inl f ↦ absurd (true≢false (rw (some, f) at e))
  | inr f ↦ elim (ℕ_discrete k i) [ yes y ↦ rw y f | no y ↦ some_no p (suc i) n (rw (some, f) at e) k (omega arith) (omega arith) ]
]

pub some_yes : (p : ℕ → Bool) (i n : ℕ) → some p i n ≡ true → (k : ℕ) × (i ≤ k) × (k < i + n) × (p k ≡ true)
unfolding some
some_yes p i zero e = absurd (false≢true e)
some_yes p i (suc n) e = elim (which (p i)) [
  | inl f ↦ (i, omega arith, omega arith, f)
  | inr f ↦ (let r = some_yes p (suc i) n (rw (some, f) at e) in (r.0, omega (arith, r.1), omega (arith, r.2), r.3))
]

pub some_none : (p : ℕ → Bool) (i n : ℕ) → ((k : ℕ) → i ≤ k → k < i + n → p k ≡ false) → some p i n ≡ false
unfolding some
some_none p i zero h = refl
some_none p i (suc n) h = rw (some, h i (omega arith) (omega arith)) (some_none p (suc i) n (λ k a b. h k (omega arith) (omega arith)))

pub some_intro : (p : ℕ → Bool) (i n k : ℕ) → i ≤ k → k < i + n → p k ≡ true → some p i n ≡ true
some_intro p i n k a b e = elim (which (some p i n)) [ inl f ↦ f | inr f ↦ absurd (true≢false (sym e ∙ some_no p i n f k a b)) ]

-- one row more
pub some_more : (p : ℕ → Bool) (n : ℕ) → some p 0 (suc n) ≡ (some p 0 n || p n)
some_more p n = same_test (some p 0 (suc n)) (some p 0 n || p n) there back
  where
    there : some p 0 (suc n) ≡ true → (some p 0 n || p n) ≡ true
    there e = let r = some_yes p 0 (suc n) e in elim (which (p n)) [
      | inl f ↦ or_r (some p 0 n) (p n) f
      | inr f ↦ or_l (some p 0 n) (p n) (some_intro p 0 n r.0 (omega arith)
          (let z : r.0 ≡ n → ⊥ = λ e. true≢false (sym r.3 ∙ ap p e ∙ f) in omega (arith, r.2, z)) r.3)
    ]

    back : (some p 0 n || p n) ≡ true → some p 0 (suc n) ≡ true
    back e = elim (or_cases (some p 0 n) (p n) e) [
      | inl f ↦ (let r = some_yes p 0 n f in some_intro p 0 (suc n) r.0 (omega arith) (omega (arith, r.2)) r.3)
      | inr f ↦ some_intro p 0 (suc n) n (omega arith) (omega arith) f
    ]

-- tests that agree
pub some_same : (p q : ℕ → Bool) (i n : ℕ) → ((k : ℕ) → i ≤ k → k < i + n → p k ≡ q k) → some p i n ≡ some q i n
unfolding some
some_same p q i zero h = refl
some_same p q i (suc n) h = let e = h i (omega arith) (omega arith) in elim (which (q i)) [
  | inl f ↦ rw (some, e, f)
  | inr f ↦ (let d : p i ≡ false = e ∙ f in rw (some, d, f) (some_same p q (suc i) n (λ k a b. h k (omega arith) (omega arith))))
]

-- all from 0 pass
pub every_yes : (p : ℕ → Bool) (n : ℕ) → every p 0 n ≡ true → (k : ℕ) → k < n → p k ≡ true
every_yes p n e k h = not-false (p k) (some_no (λ j. not (p j)) 0 n (not-true _ e) k (omega arith) (omega arith))

pub every_intro : (p : ℕ → Bool) (n : ℕ) → ((k : ℕ) → k < n → p k ≡ true) → every p 0 n ≡ true
every_intro p n h = false_not _ (some_none (λ j. not (p j)) 0 n (λ k a b. true_not (p k) (h k (omega arith))))

-- a row that does not pass
pub every_no : (p : ℕ → Bool) (n k : ℕ) → k < n → p k ≡ false → every p 0 n ≡ false
every_no p n k h e = true_not _ (some_intro (λ j. not (p j)) 0 n k (omega arith) (omega arith) (false_not (p k) e))

-- ---- least

pub least_to : (p : ℕ → Bool) (i n : ℕ) → least p i n ≤ i + n
unfolding least
least_to p i zero = omega arith
least_to p i (suc n) = elim (which (p i)) [ inl e ↦ rw (least, e) (omega arith) | inr e ↦ rw (least, e) (omega (arith, least_to p (suc i) n)) ]

-- none before it passes
pub least_before : (p : ℕ → Bool) (i n k : ℕ) → i ≤ k → k < least p i n → p k ≡ false
unfolding least
least_before p i zero k a b = absurd (omega arith)
least_before p i (suc n) k a b = elim (which (p i)) [
  | inl f ↦ (let z : k < i = rw (least, f) at b in absurd (omega arith))
  | inr f ↦ elim (ℕ_discrete k i) [ yes y ↦ rw y f | no y ↦ least_before p (suc i) n k (omega arith) (rw (least, f) at b) ]
]

-- it passes, unless none does
pub least_passes : (p : ℕ → Bool) (i n : ℕ) → least p i n < i + n → p (least p i n) ≡ true
unfolding least
least_passes p i zero h = absurd (omega arith)
least_passes p i (suc n) h = elim (which (p i)) [
  | inl f ↦ rw (least, f) f
  | inr f ↦ rw (least, f) (least_passes p (suc i) n (let z : least p (suc i) n < i + suc n = rw (least, f) at h in omega arith))
]

pub least_at : (p : ℕ → Bool) (i n k : ℕ) → i ≤ k → k < i + n → p k ≡ true → ((j : ℕ) → i ≤ j → j < k → p j ≡ false) → least p i n ≡ k
unfolding least
least_at p i zero k a b e h = absurd (omega arith)
least_at p i (suc n) k a b e h = elim (ℕ_discrete k i) [
  | yes y ↦ (let f : p i ≡ true = rw y at e in rw (least, f) (sym y))
  | no y ↦ rw (least, h i (omega arith) (omega arith)) (least_at p (suc i) n k (omega arith) (omega arith) e (λ j u v. h j (omega arith) v))
]

pub least_none : (p : ℕ → Bool) (i n : ℕ) → ((k : ℕ) → i ≤ k → k < i + n → p k ≡ false) → least p i n ≡ i + n
unfolding least
least_none p i zero h = omega arith
least_none p i (suc n) h = rw (least, h i (omega arith) (omega arith)) (least_none p (suc i) n (λ k a b. h k (omega arith) (omega arith)) ∙ omega arith)

-- the least number to pass is the same for tests that agree
pub least_same : (p q : ℕ → Bool) (i n : ℕ) → ((k : ℕ) → i ≤ k → k < i + n → p k ≡ q k) → least p i n ≡ least q i n
unfolding least
least_same p q i zero h = refl
least_same p q i (suc n) h = elim (which (q i)) [
  | inl e ↦ (let f : p i ≡ true = h i (omega arith) (omega arith) ∙ e in rw (least, e, f))
  | inr e ↦ (let f : p i ≡ false = h i (omega arith) (omega arith) ∙ e in rw (least, e, f) (least_same p q (suc i) n (λ k a b. h k (omega arith) (omega arith))))
]

-- ---- count

pub count_up_lem : (p : ℕ → Bool) (s t : ℕ) → s ≤ t → count p s ≤ count p t
unfolding count
count_up_lem p s zero h = let e : s ≡ 0 = omega arith in rw e (omega arith)
count_up_lem p s (suc t) h = elim (ℕ_discrete s (suc t)) [ yes e ↦ rw e (omega arith) | no n ↦ omega (arith, count_up_lem p s t (omega arith)) ]

-- one that passes is counted past it
pub count_past : (p : ℕ → Bool) (s t : ℕ) → s < t → p s ≡ true → count p s < count p t
unfolding count
count_past p s t h e = lt_of_lt_of_le (rw (e, count) (omega arith)) (count_up_lem p (suc s) t h)

pub count_same : (p q : ℕ → Bool) (n : ℕ) → ((i : ℕ) → i < n → q i ≡ p i) → count q n ≡ count p n
unfolding count
count_same p q zero h = refl
count_same p q (suc n) h = rw (h n (omega arith), count_same p q n (λ i z. h i (omega arith)))

-- without one that passes there is one less
pub count_less : (p q : ℕ → Bool) (e : ℕ) → ((i : ℕ) → i ≢ e → q i ≡ p i) → q e ≡ false → p e ≡ true → (n : ℕ) → e < n → suc (count q n) ≡ count p n
unfolding count
count_less p q e h f g zero z = absurd (omega arith)
count_less p q e h f g (suc n) z = elim (ℕ_discrete n e) [
  | yes x ↦ rw (x, f, g, count_same p q e (λ i y. h i (omega arith))) (omega arith)
  | no x ↦ rw (h n x) (omega (arith, count_less p q e h f g n (omega arith)))
]

pub count_le : (p : ℕ → Bool) (n : ℕ) → count p n ≤ n
unfolding count
count_le p zero = omega arith
count_le p (suc n) = elim (which (p n)) [ inl e ↦ rw e (omega (arith, count_le p n)) | inr e ↦ rw e (omega (arith, count_le p n)) ]

-- nothing is counted exactly where nothing passes
pub count_none : (p : ℕ → Bool) (n : ℕ) → ((i : ℕ) → i < n → p i ≡ false) → count p n ≡ 0
unfolding count
count_none p zero h = refl
count_none p (suc n) h = rw (h n (omega arith), count_none p n (λ i z. h i (omega arith)))

-- each number below the count is the count before one that passes
pub count_at : (p : ℕ → Bool) (n k : ℕ) → k < count p n → (i : ℕ) × (i < n) × (p i ≡ true) × (count p i ≡ k)
unfolding count
count_at p zero k h = absurd (omega arith)
count_at p (suc n) k h = elim (dec_le (suc k) (count p n)) [
  | yes l ↦ (let r = count_at p n k l in (r.0, omega (arith, r.1), r.2, r.3))
  | no l ↦ elim (which (p n)) [
    | inl e ↦ (n, omega arith, e, (let z : k < count p n + 1 = rw e at h in omega arith))
    | inr e ↦ (let z : k < count p n + 0 = rw e at h in absurd (omega arith))
  ]
]

-- ---- table

pub length_table : {A : Type 0} (f : ℕ → A) (i n : ℕ) → length (table f i n) ≡ n
unfolding table
length_table f i zero = refl
length_table f i (suc n) = ap suc (length_table f (suc i) n)

pub get_d_table : {A : Type 0} (f : ℕ → A) (i n k : ℕ) (d : A) → k < n → get_or (table f i n) k d ≡ f (i + k)
unfolding table
get_d_table f i zero k d h = absurd (omega arith)
get_d_table f i (suc n) zero d h = (let e : i + 0 ≡ i = omega arith in rw e)
get_d_table f i (suc n) (suc k) d h = (let e : i + suc k ≡ suc i + k = omega arith in rw e (get_d_table f (suc i) n k d (omega arith)))

-- one more at the end
pub table_snoc : {A : Type 0} (f : ℕ → A) (i n : ℕ) → table f i (suc n) ≡ table f i n ++ (f (i + n) ∷ [])
unfolding table
table_snoc f i zero = (let e : i + 0 ≡ i = omega arith in rw e)
table_snoc f i (suc n) = (let e : i + suc n ≡ suc i + n = omega arith in rw e (ap (λ l. f i ∷ l) (table_snoc f (suc i) n)))

-- ---- lists

pub flat_map_append : {A B : Type 0} (f : A → List B) (xs ys : List A) → flat_map f (xs ++ ys) ≡ flat_map f xs ++ flat_map f ys
unfolding flat_map
flat_map_append f [] ys = refl
flat_map_append f (x ∷ xs) ys = rw (flat_map_append f xs ys) (sym (append_assoc (f x) (flat_map f xs) (flat_map f ys)))

-- one more row
pub rows_snoc : {A : Type 0} (f : ℕ → List A) (i n : ℕ) → flat_map f (table (λ k. k) i (suc n)) ≡ flat_map f (table (λ k. k) i n) ++ f (i + n)
unfolding flat_map
rows_snoc f i n = ap (flat_map f) (table_snoc (λ k. k) i n) ∙ flat_map_append f (table (λ k. k) i n) ((i + n) ∷ []) ∙ ap (λ l. flat_map f (table (λ k. k) i n) ++ l) (append-nil (f (i + n)))

-- a list of no elements
pub no_length : {A : Type 0} (l : List A) → length l ≡ 0 → l ≡ []
no_length [] e = refl
no_length (x ∷ l) e = absurd (omega arith)

-- equal elements, at every place
pub get_d_equal : {A : Type 0} (a : A) (n i : ℕ) → get_or (replicate n a) i a ≡ a
get_d_equal a n i = elim (dec_le (suc i) n) [ yes h ↦ get_or-replicate n i a a h | no h ↦ get_or-eq_default (replicate n a) a {n = i} (omega (arith, length-replicate n a)) ]

-- two runs of stores in a row
pub sets_append : {A : Type 0} (v l : List A) (i : ℕ) (w : List A) → sets l i (v ++ w) ≡ sets (sets l i v) (i + length v) w
sets_append [] l i w = rw add-zero
sets_append (b ∷ v) l i w = rw (add-suc i (length v), ← suc-add i (length v)) (sets_append v (set l i b) (suc i) w)

-- past the end nothing is stored
pub sets_out : {A : Type 0} (l : List A) (i : ℕ) (w : List A) → length l ≤ i → sets l i w ≡ l
sets_out l i [] h = refl
sets_out l i (b ∷ w) h = rw (set_out l i b h) (sets_out l (suc i) w (omega arith))
