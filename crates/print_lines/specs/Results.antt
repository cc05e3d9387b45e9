-- The lines of a run from its leaves and its output words, and that they are those of format's Printed.antt.
use Rattle.std.specs.Prelude.{◌≡◌, refl, ℕ, zero, suc, ◌+◌, ◌<◌, ◌≤◌, List, [], ◌∷◌, ◌++◌, map, length, get_or, take}
use Rattle.std.proofs.Common.{sym, ap, ◌∙◌, arith, append_assoc, append-nil, length-append}
use Rattle.meaning.specs.Machine.{Seen}
use Rattle.meaning.specs.Refusals.{number_of, place_of}
use Rattle.meaning.specs.declared.Refusal.{Refusal}
use Rattle.format.specs.Text.{bytes, decimal, line}
use Rattle.format.specs.Printed.{comma, scan_lines, refusal_line}
use Rattle.format.proofs.Laws.Decimals.{decimal_few}

-- ",a,b" and LF
abbrev pub end_of : ℕ → ℕ → List ℕ
end_of a b = (44 ∷ []) ++ (decimal a ++ ((44 ∷ []) ++ (decimal b ++ (10 ∷ []))))

abbrev pub scan_line : ℕ → ℕ → ℕ → List ℕ
scan_line n leaf outputs = decimal n ++ end_of leaf outputs

-- the lines of scan n and those after it, as far as there are both a leaf and an output word
unfoldable pub scan_lines_from : ℕ → List ℕ → List ℕ → List ℕ
scan_lines_from n [] os = []
scan_lines_from n (l ∷ ls) [] = []
scan_lines_from n (l ∷ ls) (o ∷ os) = scan_line n l o ++ scan_lines_from (suc n) ls os

-- three parts with commas between them, as a line
line_parts : (w : List ℕ) (a b : ℕ) → line (comma w (comma (decimal a) (decimal b))) ≡ w ++ end_of a b
unfolding line comma
line_parts w a b = simp append_assoc

pub refusal_parts : (r : Refusal) → refusal_line r ≡ bytes "REFUSED" ++ end_of (number_of r) (place_of r)
unfolding refusal_line
refusal_parts r = line_parts (bytes "REFUSED") (number_of r) (place_of r)

-- how long a line is: two decimals of at most 20 digits behind its first part
pub end_few : (w : List ℕ) (a b : ℕ) → length (w ++ end_of a b) ≤ length w + 43
end_few w a b = omega (
  arith,
  length-append w (end_of a b),
  length-append (decimal a) (44 ∷ (decimal b ++ (10 ∷ []))),
  length-append (decimal b) (10 ∷ []),
  decimal_few a,
  decimal_few b,
)

pub refusal_few : (r : Refusal) → length (refusal_line r) ≤ 50
refusal_few r = rw (refusal_parts r) (end_few (bytes "REFUSED") (number_of r) (place_of r))

pub lines_are : (n : ℕ) (ss : List Seen) → scan_lines_from n (map (λ (s : Seen). s.leaf) ss) (map (λ (s : Seen). s.outputs) ss) ≡ scan_lines n ss
unfolding scan_lines_from scan_lines
lines_are n [] = refl
lines_are n (s ∷ ss) = rw (line_parts (decimal n) s.leaf s.outputs, lines_are (suc n) ss)

-- one line more
pub lines_more : (n i : ℕ) (ls os : List ℕ) → i < length ls → i < length os
    → scan_lines_from n (take (suc i) ls) (take (suc i) os) ≡ scan_lines_from n (take i ls) (take i os) ++ scan_line (n + i) (get_or ls i 0) (get_or os i 0)
unfolding scan_lines_from
lines_more n i [] os h g = absurd (omega arith)
lines_more n i (l ∷ ls) [] h g = absurd (omega arith)
lines_more n zero (l ∷ ls) (o ∷ os) h g = let e : n + 0 ≡ n = omega arith in rw e (append-nil (scan_line n l o))
lines_more n (suc i) (l ∷ ls) (o ∷ os) h g =
    let e : suc n + i ≡ n + suc i = omega arith in
    ap (λ (w : List ℕ). scan_line n l o ++ w) (lines_more (suc n) i ls os (omega arith) (omega arith) ∙ rw e)
    ∙ sym (append_assoc (scan_line n l o) (scan_lines_from (suc n) (take i ls) (take i os)) (scan_line (n + suc i) (get_or ls i 0) (get_or os i 0)))
