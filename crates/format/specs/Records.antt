-- Records of RFC 4180, where "LF alone also ends a record", and the decimals in them.
use Rattle.std.specs.Prelude.{ℕ, ◌+◌, ◌*◌, ◌-◌, ◌^◌, Bool, true, false, ◌&&◌, cond, length, get_or, take, drop, leb}
use Rattle.std.specs.Prelude.{eqb, ℤ, pos, neg_ℤ}
use mathlib.Core.List.{List, [], ◌∷◌, map, flat_map}
use Rattle.meaning.specs.Programs.{all}
use Rattle.meaning.specs.Literals.{between}
use Rattle.format.specs.Text.{decimal}

-- b put before the first piece
unfoldable pub front : ℕ → List (List ℕ) → List (List ℕ)
front b [] = (b ∷ []) ∷ []
front b (p ∷ ps) = (b ∷ p) ∷ ps

-- what stands between the bytes sep: one piece more than there are of them
unfoldable pub pieces : ℕ → List ℕ → List (List ℕ)
pieces sep [] = [] ∷ []
pieces sep (b ∷ bs) = cond (eqb b sep) ([] ∷ pieces sep bs) (front b (pieces sep bs))

-- without the CR of a record that ended in CR LF
unfoldable pub without_cr : List ℕ → List ℕ
without_cr [] = []
without_cr (b ∷ []) = cond (eqb b 13) [] (b ∷ [])
without_cr (b ∷ d ∷ bs) = b ∷ without_cr (d ∷ bs)

-- the end of the file ends the last record; an empty piece after the last LF is no record
unfoldable pub ended_records : List (List ℕ) → List (List ℕ)
ended_records [] = []
ended_records ([] ∷ []) = []
ended_records ((b ∷ bs) ∷ []) = (b ∷ bs) ∷ []
ended_records (p ∷ q ∷ ps) = without_cr p ∷ ended_records (q ∷ ps)

-- The records of a file. A quoted field may hold LF, comma and quotes, but then it is no decimal, and only the number
-- of the first such record is asked: that is the number of LF before it.
unfoldable pub records : List ℕ → List (List ℕ)
records bs = ended_records (pieces 10 bs)

-- a quoted field counts by its content
unfoldable pub content : List ℕ → List ℕ
content f =
    cond (leb 2 (length f) && eqb (get_or f 0 0) 34 && eqb (get_or f (length f - 1) 0) 34)
    (take (length f - 2) (drop 1 f)) f

unfoldable pub fields : List ℕ → List (List ℕ)
fields r = map content (pieces 44 r)

unfoldable pub same : List ℕ → List ℕ → Bool
same [] [] = true
same [] (d ∷ ds) = false
same (b ∷ bs) [] = false
same (b ∷ bs) (d ∷ ds) = eqb b d && same bs ds

-- the number that digits spell, whatever they are; a decimal is what `decimal` gives of it
unfoldable pub spelt : ℕ → List ℕ → ℕ
spelt n [] = n
spelt n (b ∷ bs) = spelt (10 * n + (b - 48)) bs

-- f is the decimal of a number from low to high; no field of more than 20 digits is, since `decimal` gives 20 at most
unfoldable pub decimal_within : ℕ → ℕ → List ℕ → Bool
decimal_within low high f = same (decimal (spelt 0 f)) f && between low high (spelt 0 f)

-- the field's type: whether it has a sign, and its bits
pub record Column : Type 0 where
  pub signed : Bool
  pub bits : ℕ

unfoldable pub negative : List ℕ → Bool
negative f = eqb (get_or f 0 0) 45

-- "a decimal of its type (no +, -0 or leading zero)"
unfoldable pub decimal_fits : Column → List ℕ → Bool
decimal_fits t f = cond t.signed
    (cond (negative f) (decimal_within 1 (2 ^ (t.bits - 1)) (drop 1 f)) (decimal_within 0 (2 ^ (t.bits - 1) - 1) f))
    (decimal_within 0 (2 ^ t.bits - 1) f)

unfoldable pub field_value : List ℕ → ℤ
field_value f = cond (negative f) (neg_ℤ (pos (spelt 0 (drop 1 f)))) (pos (spelt 0 f))

-- 16 FIELD: "record of wrong field count, or a field that isn't a decimal of its type"
unfoldable pub record_passes : Column → ℕ → List ℕ → Bool
record_passes t n r = eqb (length (fields r)) n && all (decimal_fits t) (fields r)

-- the numbers of a file, record after record
unfoldable pub numbers : List ℕ → List ℤ
numbers bs = flat_map (λ r. map field_value (fields r)) (records bs)
