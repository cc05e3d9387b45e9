-- The reader tells of a file what document 01 says: FIELD at the least record that does not pass, or how many records there are; and it stores their numbers.
use Rattle.meaning.specs.Refusals.{Answer}
use Rattle.std.proofs.Math.Path.{◌≡◌, refl, sym}
use Rattle.std.proofs.Common.{ap, ◌∙◌}
use Rattle.std.specs.Prelude.{◌⊎◌, Bool, ◌&&◌, cond, drop, leb, ltb, eqb, Ok, Err, Option}
use Rattle.std.proofs.Math.Logic.{inl, inr}
use Prim.Native.Nat.{ℕ, zero, suc, ◌+◌, ◌-◌, ◌^◌, ◌≤◌, ◌<◌, max}
use native.Mathlib.Omega.{arith}
use Rattle.std.proofs.Math.Bool.{true, false, not, and-false}
use Rattle.std.proofs.lemmas.Bool.{false≢true}
use mathlib.Core.List.{List, [], ◌∷◌, ◌++◌, map, flat_map, map-append}
use Rattle.std.proofs.Math.ListN.{length, get_or, length-map, get_or-eq_default}
use Rattle.std.proofs.Math.Dec.{eqb-suc-suc}
use borrow.Author.Tests.{leb-true, eq-eqb, ne_eqb, ltb-false, ltb-true, eqb-true}
use Rattle.meaning.specs.Programs.{all}
use Rattle.meaning.specs.Literals.{between}
use Rattle.meaning.specs.Rows.{least}
use Rattle.meaning.proofs.Laws.Rows.{which, and_l, and_r, least_at, least_none, true_not, false_not, false_by}
use Rattle.meaning.specs.Check.{Check, first_failing}
use Rattle.meaning.specs.declared.Refusal.TheVariants as R
use Rattle.format.specs.Records.{Column, pieces, records, content, fields, same, spelt, decimal_within, negative, decimal_fits, field_value, record_passes, numbers}
use Rattle.format.specs.Text.{decimal}
use Rattle.format.specs.Printed.{record_at}
use Rattle.format.proofs.Laws.Decimals.{huge}
use Rattle.csv_field.specs.declared.FieldPhase.{FieldPhase}
use Rattle.csv_field.specs.declared.FieldPhase.TheVariants.{Fresh, Empty}
use Rattle.csv_cursor.specs.declared.Reader.{Reader}
use Rattle.csv_field.specs.Field.{most64}
use Rattle.csv_value.specs.Decimals.{decimal_of}
use Rattle.csv_cursor.specs.Passing.{fresh_reader}
use Rattle.csv_records.specs.Automaton.{numbers_of, emits, feed_all, emitted, at_end, answer_of}
use Rattle.csv_records.specs.Decimals.{within_other}
use Rattle.csv_records.specs.Fields.{stored_number, fits_in, told, phase_all, field_after, fresh_after}
use Rattle.csv_records.specs.Lines.{pieces_cons, is_number, rest_passes, rest_numbers}
use Rattle.csv_records.specs.Whole.{joined_pieces_lem, plain_pieces, upshot, record_numbers, FileTold, told_file}

-- ---- a column's numbers

abbrev pub most_of : Column → ℕ
most_of t = cond t.signed (2 ^ (t.bits - 1) - 1) (2 ^ t.bits - 1)

-- the size of its least
abbrev pub below_of : Column → ℕ
below_of t = cond t.signed (2 ^ (t.bits - 1)) 0

none_below : (f : List ℕ) → decimal_within 1 0 f ≡ false
unfolding decimal_within
none_below f = false_by _ (λ t. let z = and_r (same (decimal (spelt 0 f)) f) (between 1 0 (spelt 0 f)) t in
    let x = leb-true 1 (spelt 0 f) (and_l (leb 1 (spelt 0 f)) (leb (spelt 0 f) 0) z) in let y = leb-true (spelt 0 f) 0 (and_r (leb 1 (spelt 0 f)) (leb (spelt 0 f) 0) z) in absurd (omega arith))

minus_none : (most : ℕ) → most < huge → (f : List ℕ) → negative f ≡ true → decimal_within 0 most f ≡ false
unfolding negative
minus_none most h [] e = absurd (false≢true e)
minus_none most h (b ∷ f) e = (let z = eqb-true b 45 e in within_other 0 most h b f (rw z))

module _ (t : Column) (small : most_of t ≤ most64) (little : below_of t ≤ most64) where
  abbrev after : FieldPhase → List ℕ → (Option ℕ)
  after p f = decimal_of (phase_all (most_of t) (below_of t) p f)

  pub column_fits : (f : List ℕ) → decimal_fits t f ≡ fits_in (most_of t) (below_of t) f
  unfolding decimal_fits fits_in
  column_fits f = elim (which t.signed) [
    | inl e ↦ rw e
    | inr e ↦ (let h : 2 ^ t.bits - 1 ≤ most64 = rw e at small in rw e (elim (which (negative f)) [
      | inl g ↦ rw (g, minus_none (2 ^ t.bits - 1) (omega arith) f g, none_below (drop 1 f))
      | inr g ↦ rw g
    ]))
  ]

  number_told : (f : List ℕ) → is_number (told (most_of t) (below_of t) f) ≡ decimal_fits t f
  unfolding told
  number_told f = rw (column_fits f) (elim (which (fits_in (most_of t) (below_of t) f)) [ inl e ↦ rw e | inr e ↦ rw e ])

  field_fits : (f : List ℕ) → is_number (after Empty f) ≡ decimal_fits t (content f)
  field_fits f = ap is_number (field_after (most_of t) (below_of t) small little f) ∙ number_told (content f)

  first_fits : (f : List ℕ) → is_number (after Fresh f) ≡ decimal_fits t (content f)
  first_fits f = ap is_number (fresh_after (most_of t) (below_of t) small little f) ∙ field_fits f

  all_fit : (fs : List (List ℕ)) → all (λ g. is_number (after Empty g)) fs ≡ all (decimal_fits t) (map content fs)
  unfolding all
  all_fit [] = refl
  all_fit (f ∷ fs) = rw (field_fits f, all_fit fs)

  -- ---- a record

  pub record_passes_lem : (more : ℕ) (x : List ℕ) → rest_passes (most_of t) (below_of t) Fresh more (pieces 44 x) ≡ record_passes t (suc more) x
  unfolding rest_passes record_passes fields all
  record_passes_lem more x = (let c = pieces_cons 44 x in
      rw (c.2, first_fits c.0, all_fit c.1, length-map c.1 content, eqb-suc-suc (length c.1) more))

  field_stores : (f : List ℕ) → decimal_fits t f ≡ true → numbers_of (told (most_of t) (below_of t) f) ≡ stored_number (field_value f) ∷ []
  unfolding told numbers_of
  field_stores f e = rw (sym (column_fits f) ∙ e)

  all_store : (fs : List (List ℕ)) → all (decimal_fits t) (map content fs) ≡ true → flat_map (λ g. numbers_of (after Empty g)) fs ≡ map stored_number (map field_value (map content fs))
  unfolding all flat_map
  all_store [] e = refl
  all_store (f ∷ fs) e =
      rw (field_after (most_of t) (below_of t) small little f, field_stores (content f) (and_l (decimal_fits t (content f)) (all (decimal_fits t) (map content fs)) e))
      (ap (λ (l : List ℕ). stored_number (field_value (content f)) ∷ l) (all_store fs (and_r (decimal_fits t (content f)) (all (decimal_fits t) (map content fs)) e)))

  pub record_stores : (more : ℕ) (x : List ℕ) → record_passes t (suc more) x ≡ true → rest_numbers (most_of t) (below_of t) Fresh (pieces 44 x) ≡ map stored_number (map field_value (fields x))
  unfolding rest_numbers record_passes fields all
  record_stores more x e = (let c = pieces_cons 44 x in
      let h : (eqb (suc (length (map content c.1))) (suc more) && (decimal_fits t (content c.0) && all (decimal_fits t) (map content c.1))) ≡ true = rw c.2 at e in
      let g : (decimal_fits t (content c.0) && all (decimal_fits t) (map content c.1)) ≡ true = and_r (eqb (suc (length (map content c.1))) (suc more)) _ h in
      rw (c.2, fresh_after (most_of t) (below_of t) small little c.0, field_after (most_of t) (below_of t) small little c.0, field_stores (content c.0) (and_l (decimal_fits t (content c.0)) (all (decimal_fits t) (map content c.1)) g))
      (ap (λ (l : List ℕ). stored_number (field_value (content c.0)) ∷ l) (all_store c.1 (and_r (decimal_fits t (content c.0)) (all (decimal_fits t) (map content c.1)) g))))

  none_passes : (more : ℕ) → record_passes t (suc more) [] ≡ false
  unfolding rest_passes phase_all decimal_of pieces
  none_passes more = sym (record_passes_lem more []) ∙ and-false (eqb 0 more)

  numbers_stored : (more : ℕ) (xs : List (List ℕ)) → ((j : ℕ) → j < length xs → record_passes t (suc more) (get_or xs j []) ≡ true)
      → flat_map (λ x. rest_numbers (most_of t) (below_of t) Fresh (pieces 44 x)) xs ≡ map stored_number (flat_map (λ x. map field_value (fields x)) xs)
  unfolding flat_map
  numbers_stored more [] h = refl
  numbers_stored more (x ∷ xs) h =
      rw (record_stores more x (h 0 (omega arith)), numbers_stored more xs (λ j z. h (suc j) (omega arith)))
      (sym (map-append stored_number (map field_value (fields x)) (flat_map (λ y. map field_value (fields y)) xs)))

-- ---- the answer, by the least record that does not pass

abbrev ok_at : Reader → ℕ → List ℕ → Bool
ok_at r i x = ltb i r.limit && rest_passes r.most r.below Fresh r.more (pieces 44 x)

pub record Good (r : Reader) (k : ℕ) (xs : List (List ℕ)) : Type 0 where
  pub answer : upshot r k xs ≡ Ok (k + length xs)
  pub enough : r.least ≤ k + length xs
  pub passing : (j : ℕ) → j < length xs → ok_at r (k + j) (get_or xs j []) ≡ true

pub record Wrong (r : Reader) (k : ℕ) (xs : List (List ℕ)) (j : ℕ) : Type 0 where
  pub answer : upshot r k xs ≡ Err (R.Field (k + j))
  pub at : ((j < length xs) × (ok_at r (k + j) (get_or xs j []) ≡ false)) ⊎ ((j ≡ length xs) × (k + j < r.least))
  pub before : (i : ℕ) → i < j → ok_at r (k + i) (get_or xs i []) ≡ true

later : (r : Reader) (x : List ℕ) (xs : List (List ℕ)) (k n : ℕ) → ok_at r k x ≡ true → ((j : ℕ) → j < n → ok_at r (suc k + j) (get_or xs j []) ≡ true)
    → (j : ℕ) → j < suc n → ok_at r (k + j) (get_or (x ∷ xs) j []) ≡ true
later r x xs k n e g zero h = (let z : k + 0 ≡ k = omega arith in rw z e)
later r x xs k n e g (suc j) h = (let y : k + suc j ≡ suc k + j = omega arith in rw y (g j (omega arith)))

come : (r : Reader) (xs : List (List ℕ)) (k : ℕ) → Good r k xs ⊎ ((j : ℕ) × Wrong r k xs j)
unfolding upshot
come r [] k = (let z : k + 0 ≡ k = omega arith in elim (which (ltb k r.least)) [
  | inl e ↦ inr (0, record { answer = rw (e, z); at = inr (refl, rw z (ltb-true k r.least e)); before = λ i h. absurd (omega arith) })
  | inr e ↦ inl (record { answer = rw (e, z); enough = rw z (ltb-false k r.least e); passing = λ i h. absurd (omega arith) })
])
come r (x ∷ xs) k = (let z : k + 0 ≡ k = omega arith in elim (which (ok_at r k x)) [
  | inr e ↦ inr (0, record { answer = rw (e, z); at = inl (omega arith, rw z e); before = λ i h. absurd (omega arith) })
  | inl e ↦ elim (come r xs (suc k)) [
    | inl g ↦ inl (record {
      answer = rw e (g.answer ∙ ap Ok (omega arith));
      enough = omega (arith, g.enough);
      passing = later r x xs k (length xs) e g.passing;
    })
    | inr (j, g) ↦ inr (
      suc j,
      record {
        answer = rw e (g.answer ∙ ap (λ (n : ℕ). Err (R.Field n)) (omega arith));
        at = elim g.at [
          | inl a ↦ inl (omega (arith, a.0), (let y : k + suc j ≡ suc k + j = omega arith in rw y a.1))
          | inr a ↦ inr (ap suc a.0, omega (arith, a.1))
        ];
        before = later r x xs k j e g.before;
      },
    )
  ]
])

-- ---- the theorem

-- the check of a file of records of more + 1 fields of type t, at least `least` and at most `limit` of them
unfoldable pub limited : Column → ℕ → ℕ → ℕ → List ℕ → Check
limited t more few limit bs = record { refusal = R.Field; rows = max few (length (records bs)); passes = λ i. ltb i limit && record_passes t (suc more) (record_at bs i) }

-- a check's answer of a file of n records
unfoldable pub answered : Check → ℕ → Answer
answered k n = cond (eqb (first_failing k) k.rows) (Ok n) (Err (k.refusal (first_failing k)))

module _ (t : Column) (more few limit : ℕ) (small : most_of t ≤ most64) (little : below_of t ≤ most64) (fits : limit ≤ most64) (bs : List ℕ) where
  abbrev reader : Reader
  reader = fresh_reader (most_of t) (below_of t) more few limit

  abbrev check : Check
  check = limited t more few limit bs

  whole : FileTold reader 0 0 bs (records bs)
  unfolding records
  whole = rw (joined_pieces_lem bs) at (told_file reader fits (pieces 10 bs) (plain_pieces bs) 0 0)

  ok_passes : (i : ℕ) → ok_at reader i (record_at bs i) ≡ check.passes i
  unfolding limited
  ok_passes i = rw (record_passes_lem t small little more (record_at bs i))

  -- 0 + i is no i to the checker
  ok_at_lem : (i : ℕ) (v : Bool) → ok_at reader (0 + i) (get_or (records bs) i []) ≡ v → check.passes i ≡ v
  unfolding record_at
  ok_at_lem i v e = (let z : 0 + i ≡ i = omega arith in let g : ok_at reader i (get_or (records bs) i []) ≡ v = rw z at e in sym (ok_passes i) ∙ g)

  good_answer : Good reader 0 (records bs) → upshot reader 0 (records bs) ≡ answered check (length (records bs))
  unfolding answered first_failing limited
  good_answer g =
      let e : max few (length (records bs)) ≡ length (records bs) = omega (arith, g.enough) in
      let z : 0 + length (records bs) ≡ length (records bs) = omega arith in
      let f : least (λ i. not (check.passes i)) 0 (length (records bs)) ≡ length (records bs) =
      least_none (λ i. not (check.passes i)) 0 (length (records bs)) (λ k a b. true_not (check.passes k) (ok_at_lem k true (g.passing k (omega arith)))) ∙ z in
      g.answer ∙ rw (e, f, eq-eqb (length (records bs)) (length (records bs)) refl, z)

  wrong_at : (j : ℕ) → Wrong reader 0 (records bs) j → (j < max few (length (records bs))) × (check.passes j ≡ false)
  unfolding limited record_at
  wrong_at j w = elim w.at [
    | inl a ↦ (omega (arith, a.0), ok_at_lem j false a.1)
    | inr a ↦ (
      omega (arith, a.0, a.1),
      (let e : get_or (records bs) j [] ≡ [] = get_or-eq_default (records bs) [] {n = j} (omega (arith, a.0)) in rw (e, none_passes t small little more) (and-false (ltb j limit))),
    )
  ]

  wrong_answer : (j : ℕ) → Wrong reader 0 (records bs) j → upshot reader 0 (records bs) ≡ answered check (length (records bs))
  unfolding answered first_failing limited
  wrong_answer j w =
      let a = wrong_at j w in
      let z : 0 + j ≡ j = omega arith in
      let h : j < 0 + max few (length (records bs)) = omega (arith, a.0) in
      let f : least (λ i. not (check.passes i)) 0 (max few (length (records bs))) ≡ j =
      least_at (λ i. not (check.passes i)) 0 (max few (length (records bs))) j (omega arith) h (false_not (check.passes j) a.1) (λ i u v. true_not (check.passes i) (ok_at_lem i true (w.before i v))) in
      w.answer ∙ rw (f, ne_eqb j (max few (length (records bs))) (λ e. omega (arith, a.0)), z)

  -- the answer is that of the check
  pub read_answer : answer_of (at_end (feed_all reader bs)) ≡ answered check (length (records bs))
  read_answer = whole.answer ∙ elim (come reader (records bs) 0) [ inl g ↦ good_answer g | inr (j, w) ↦ wrong_answer j w ]

  -- where it counts records, each passes
  pub read_passing : (n : ℕ) → answer_of (at_end (feed_all reader bs)) ≡ Ok n → (j : ℕ) → j < length (records bs) → record_passes t (suc more) (get_or (records bs) j []) ≡ true
  unfolding record_at limited
  read_passing n e = elim (come reader (records bs) 0) [
    | inl g ↦ (λ j h. and_r (ltb j limit) (record_passes t (suc more) (get_or (records bs) j [])) (ok_at_lem j true (g.passing j h)))
    | inr (j, w) ↦ (let p : upshot reader 0 (records bs) ≡ Ok n = sym whole.answer ∙ e in let q = w.answer in let z : ◌≡◌ {A = ℕ} 0 1 = cc in absurd (omega arith))
  ]

  -- and the numbers are those of the file
  pub read_numbers : (n : ℕ) → answer_of (at_end (feed_all reader bs)) ≡ Ok n → emitted reader bs ++ emits (feed_all reader bs) 10 ≡ map stored_number (numbers bs)
  unfolding numbers record_numbers
  read_numbers n e = whole.numbers n (sym whole.answer ∙ e) ∙ numbers_stored t small little more (records bs) (read_passing n e)
