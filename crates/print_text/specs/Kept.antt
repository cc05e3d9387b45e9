-- What a buffer keeps of the numbers of a file that passes.
use Rattle.meaning.specs.Refusals.{Answer}
use Rattle.std.specs.Prelude.{◌≡◌, refl, ℕ, suc, ◌+◌, ◌*◌, ◌%◌, ◌≤◌, ◌<◌, true, not, length, get_or, take, drop, leb, eqb, Ok, Err}
use Rattle.std.proofs.Common.{sym, ◌∙◌, inl, inr, arith, mul-zero, mul-suc, length-append, length-take, take_all, take_at, eqb-true, leb-true}
use Rattle.std.proofs.Math.Path.{ap}
use Rattle.std.proofs.Math.Decide.{dec_le}
use mathlib.Core.List.{List, [], ◌∷◌, ◌++◌, map, flat_map, append-nil, append_assoc}
use Rattle.std.proofs.Math.ListN.{length-map}
use Rattle.std.proofs.lemmas.List.Edits.{sets, sets-eq}
use Rattle.std.proofs.Math.Seq.{set_out, set-append_seam}
use Rattle.std.proofs.lemmas.Bool.{not-false}
use Rattle.meaning.specs.Programs.{all}
use Rattle.meaning.proofs.Laws.Rows.{which, and_l, and_r, least_before}
use Rattle.meaning.specs.Check.{Check, first_failing}
use Rattle.format.specs.Records.{Column, records, fields, field_value, record_passes, numbers}
use Rattle.format.specs.Printed.{record_at, file_check}
use Rattle.csv_records.specs.Fields.{stored_number}
use Rattle.csv_records.specs.Reading.{answered}
use Rattle.csv_records.specs.Files.{Read}
use Rattle.csv_columns.specs.Low.{low16, low32}

-- ---- lists stored in a buffer

pub sets_none : (w l : List ℕ) (i : ℕ) → length l ≤ i → sets l i w ≡ l
sets_none [] l i h = refl
sets_none (b ∷ w) l i h = rw (set_out l i b h) (sets_none w l (suc i) (omega arith))

-- a buffer that is full
filled : (w b p : List ℕ) → length b ≤ length w → sets (p ++ b) (length p) w ≡ p ++ take (length b) w
filled [] [] p h = refl
filled [] (x ∷ b) p h = absurd (omega arith)
filled (v ∷ w) [] p h = rw (append-nil p) (sets_none (v ∷ w) p (length p) (omega arith))
filled (v ∷ w) (x ∷ b) p h =
    let n : length (p ++ (v ∷ [])) ≡ suc (length p) = omega (arith, length-append p (v ∷ [])) in
    let ih : sets ((p ++ (v ∷ [])) ++ b) (length (p ++ (v ∷ []))) w ≡ (p ++ (v ∷ [])) ++ take (length b) w = filled w b (p ++ (v ∷ [])) (omega arith) in
    rw (set-append_seam p x b v) (rw (n, append_assoc p (v ∷ []) b, append_assoc p (v ∷ []) (take (length b) w)) at ih)

-- the front that was kept: all of it, or as much as there is room for
pub kept_front : (w b left : List ℕ) (n m : ℕ) → length b ≡ m → left ≡ sets b 0 w → length w ≡ n → take n left ≡ take m w
kept_front w b left n m hb e hw = elim (dec_le n m) [
  | yes h ↦ (let f : sets b 0 w ≡ w ++ drop (0 + length w) b = sets-eq w b 0 (omega arith) in rw (e, f) (take_at w (drop (0 + length w) b) n hw ∙ sym (take_all m w (omega arith))))
  | no h ↦ (let f : sets b 0 w ≡ take (length b) w = filled w b [] (omega arith) in
      let g : length (take (length b) w) ≡ m = length-take (length b) w ∙ omega arith in rw (e, f) (take_all n (take (length b) w) (omega arith) ∙ rw hb))
]

-- ---- the records of a file that passes

pub rows_pass : (k : Check) → eqb (first_failing k) k.rows ≡ true → (i : ℕ) → i < k.rows → k.passes i ≡ true
unfolding first_failing
rows_pass k e i h = not-false (k.passes i) (least_before (λ j. not (k.passes j)) 0 k.rows i (omega arith) (omega (arith, eqb-true (first_failing k) k.rows e)))

pub answered_rows : (k : Check) (m n : ℕ) → answered k m ≡ Ok n → (eqb (first_failing k) k.rows ≡ true) × (n ≡ m)
unfolding answered
answered_rows k m n e = elim (which (eqb (first_failing k) k.rows)) [
  | inl f ↦ (f, (let z : Ok m ≡ Ok n = rw f at e in cc))
  | inr f ↦ (let z : Err (k.refusal (first_failing k)) ≡ Ok n = rw f at e in let y : ◌≡◌ {A = ℕ} 0 1 = cc in absurd (omega arith))
]

pub numbers_long : (t : Column) (w : ℕ) (xs : List (List ℕ)) → ((j : ℕ) → j < length xs → record_passes t w (get_or xs j []) ≡ true)
    → length (flat_map (λ r. map field_value (fields r)) xs) ≡ w * length xs
unfolding flat_map record_passes
numbers_long t w [] h = sym (mul-zero w)
numbers_long t w (x ∷ xs) h =
    let e : length (fields x) ≡ w = eqb-true (length (fields x)) w (and_l (eqb (length (fields x)) w) _ (h 0 (omega arith))) in
    let g = numbers_long t w xs (λ j z. h (suc j) (omega arith)) in
    length-append (map field_value (fields x)) (flat_map (λ r. map field_value (fields r)) xs) ∙ omega (arith, length-map (fields x) field_value, e, g, mul-suc w (length xs))

module _ (t : Column) (w : ℕ) (bs b left : List ℕ) (a : Answer) (n m : ℕ) (read : Read t (file_check t w bs) bs b a left) (rows : a ≡ Ok n) (long : length b ≡ m) where
  answer_of_lem : answered (file_check t w bs) (length (records bs)) ≡ Ok n
  answer_of_lem = sym read.answer ∙ rows

  passing : (j : ℕ) → j < length (records bs) → record_passes t w (get_or (records bs) j []) ≡ true
  unfolding file_check record_at
  passing = rows_pass (file_check t w bs) (answered_rows (file_check t w bs) (length (records bs)) n answer_of_lem).0

  stored_count : length (map stored_number (numbers bs)) ≡ w * n
  unfolding numbers
  stored_count = length-map (numbers bs) stored_number ∙ (numbers_long t w (records bs) passing ∙ ap (λ (k : ℕ). w * k) (sym (answered_rows (file_check t w bs) (length (records bs)) n answer_of_lem).1))

  pub file_front : take (w * n) left ≡ take m (map stored_number (numbers bs))
  file_front = kept_front (map stored_number (numbers bs)) b left (w * n) m long (read.stores n rows) stored_count

-- ---- numbers of their type are what of them the type holds

pub low16_same : (l : List ℕ) → all (λ n. leb n 65535) l ≡ true → map low16 l ≡ l
unfolding all
low16_same [] e = refl
low16_same (x ∷ l) e =
    let h = leb-true x 65535 (and_l (leb x 65535) (all (λ n. leb n 65535) l) e) in
    let g : x % 65536 ≡ x = omega arith in
    rw (g, low16_same l (and_r (leb x 65535) (all (λ n. leb n 65535) l) e))

pub low32_same : (l : List ℕ) → all (λ n. leb n 4294967295) l ≡ true → map low32 l ≡ l
unfolding all
low32_same [] e = refl
low32_same (x ∷ l) e =
    let h = leb-true x 4294967295 (and_l (leb x 4294967295) (all (λ n. leb n 4294967295) l) e) in
    let g : x % 4294967296 ≡ x = omega arith in
    rw (g, low32_same l (and_r (leb x 4294967295) (all (λ n. leb n 4294967295) l) e))
