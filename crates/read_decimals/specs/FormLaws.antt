-- A word between two others.
use Rattle.std.specs.Prelude.{◌≡◌, refl, ℕ, ◌+◌, ◌-◌, ◌≤◌, List, [], ◌++◌, length, take, drop, Some, None, Option}
use Rattle.std.proofs.Common.{sym, ap, ap₂, ◌∙◌, arith, append-nil, length-append, length-drop, take-append-drop, drop-drop, take_all}
use Rattle.std.proofs.Math.Seq.{take-append_seam, drop-append_seam}
use Rattle.format.specs.Text.{decimal}
use Rattle.read_decimals.specs.Forms.{Spells}

-- what stands in l behind a head and in front of a tail
abbrev pub inner : List ℕ → List ℕ → List ℕ → List ℕ
inner head tail l = take (length l - length tail - length head) (drop (length head) l)

-- l is x between a head and a tail
pub record Cut (head tail l x : List ℕ) : Type 0 where
  pub total : length head + (length x + length tail) ≡ length l
  pub front : head ≡ take (length head) l
  pub back : tail ≡ drop (length l - length tail) l
  pub middle : x ≡ inner head tail l

pub cut : (head tail l x : List ℕ) → head ++ (x ++ tail) ≡ l → Cut head tail l x
cut head tail l x e =
    let n : length head + (length x + length tail) ≡ length l = sym (length-append head (x ++ tail) ∙ ap (λ k. length head + k) (length-append x tail)) ∙ ap length e in
    let d : drop (length head) l ≡ x ++ tail = ap (drop (length head)) (sym e) ∙ drop-append_seam head (x ++ tail) in
    record {
      total = n;
      front = sym (ap (take (length head)) (sym e) ∙ take-append_seam head (x ++ tail));
      back = (let k : length l - length tail ≡ length head + length x = omega arith in
          sym (ap (λ j. drop j l) k ∙ sym (drop-drop (length x) (length head) l) ∙ ap (drop (length x)) d ∙ drop-append_seam x tail));
      middle = (let k : length l - length tail - length head ≡ length x = omega arith in
          sym (ap₂ take k d ∙ take-append_seam x tail));
    }

pub cut_back : (head tail l : List ℕ) → length head + length tail ≤ length l → head ≡ take (length head) l → tail ≡ drop (length l - length tail) l → head ++ (inner head tail l ++ tail) ≡ l
cut_back head tail l h p q =
    let k : length l - length tail ≡ length head + (length l - length tail - length head) = omega arith in
    let d : inner head tail l ++ tail ≡ drop (length head) l =
    ap (λ x. inner head tail l ++ x) (q ∙ ap (λ j. drop j l) k ∙ sym (drop-drop (length l - length tail - length head) (length head) l)) ∙ take-append-drop (length l - length tail - length head) (drop (length head) l) in
    ap₂ ◌++◌ p d ∙ take-append-drop (length head) l

pub spells_part : (head tail l : List ℕ) (low high : ℕ) (r : (Option ℕ)) → length head + length tail ≤ length l → head ≡ take (length head) l → tail ≡ drop (length l - length tail) l
    → Spells [] [] low high (inner head tail l) r → Spells head tail low high l r
spells_part head tail l low high (Some n) h p q s = (s.0, s.1, ap (λ x. head ++ (x ++ tail)) (sym (append-nil (decimal n)) ∙ s.2) ∙ cut_back head tail l h p q)
spells_part head tail l low high None h p q s = λ n a b e. s n a b (append-nil (decimal n) ∙ (cut head tail l (decimal n) e).middle)

-- the part from j on
pub part_back : (l : List ℕ) (j : ℕ) → take (length l - j) (drop j l) ≡ drop j l
part_back l j = take_all (length l - j) (drop j l) (let n = length-drop j l in omega arith)

-- ---- between a head and a tail

-- only one part stands behind a head
pub behind : (head x y : List ℕ) → head ++ x ≡ head ++ y → x ≡ y
behind head x y e = sym (drop-append_seam head x) ∙ ap (drop (length head)) e ∙ drop-append_seam head y

-- only one part stands between them
pub one_between : (head tail x y : List ℕ) → head ++ (x ++ tail) ≡ head ++ (y ++ tail) → x ≡ y
one_between head tail x y e = (cut head tail (head ++ (y ++ tail)) x e).middle ∙ sym (cut head tail (head ++ (y ++ tail)) y refl).middle

pub spells_between : (head tail x : List ℕ) (low high : ℕ) (r : Option ℕ) → Spells [] [] low high x r → Spells head tail low high (head ++ (x ++ tail)) r
spells_between head tail x low high (Some n) s = (s.0, s.1, ap (λ y. head ++ (y ++ tail)) (sym (append-nil (decimal n)) ∙ s.2))
spells_between head tail x low high None s = λ n a b e. s n a b (append-nil (decimal n) ∙ one_between head tail (decimal n) x e)
