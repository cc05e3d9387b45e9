-- How long a page is, so that one buffer is room enough for every page.
use Rattle.meaning.specs.Refusals.{Verdict}
use Rattle.std.specs.Prelude.{◌≡◌, refl, Bool, true, false, cond, ◌&&◌, ◌||◌, eqb, nat_abs, length, Ok, Err}
use Rattle.std.proofs.Common.{ap, ◌∙◌, eq-eqb, ne_eqb}
use mathlib.Core.List.{List, [], ◌∷◌, ◌++◌, flat_map, append-nil}
use Prim.Native.Nat.{ℕ, zero, suc, ◌+◌, ◌*◌, ◌/◌, ◌%◌, ◌≤◌, ◌<◌}
use Rattle.std.proofs.Math.Decide.{dec_le, ℕ_discrete}
use native.Mathlib.Omega.{arith}
use Rattle.meaning.specs.Literals.{kind_of}
use Rattle.std.proofs.Math.ListN.{length-append}
use Rattle.meaning.specs.Rows.{table, some}
use Rattle.meaning.proofs.Laws.Rows.{flat_map_append, some_more}
use Rattle.meaning.specs.Refusals.{number_of, place_of}
use Rattle.meaning.specs.Tables.{Tables, most_inputs, most_timers, most_moves, move_count, source, target, super_state, literal}
use Rattle.meaning.specs.Hierarchy.{up, levels, depth}
use Rattle.meaning.specs.Needs as N
use Rattle.meaning.specs.Check.{earlier, verdict}
use Rattle.meaning.specs.declared.Kind.{Kind}
use Rattle.meaning.specs.declared.Kind.TheVariants as K
use Rattle.meaning.specs.declared.Operand.TheVariants.{Ix, TimerQ}
use Rattle.format.specs.Text.{bytes, decimal, operand_text, line}
use Rattle.format.proofs.Laws.Decimals.{decimal_few, decimal_small, decimal_last}
use Rattle.format.specs.Printed.{refusal_line}
use Rattle.format.specs.NeedsTable.{names_of, thing_names, spaced, things_text, upward, needs_line, needs_table, overlap_line, needs_page}
use Rattle.print_lines.specs.Results.{refusal_few}
use Rattle.print_needs.specs.Names.{apart, names_more, names_none}
use Rattle.print_needs.specs.Lines.{cell_of, sets_of, way_of, pair_of, head_of, needs_line_lem, overlap_line_lem}
use Rattle.print_needs.specs.Page.{page_low, page_high, page_known, page_overlap}
use Rattle.check_witness.specs.Passed.{accepted_passed, refused_passed}

-- ---- how many names a set has

abbrev bit : Bool → ℕ
bit b = cond b 1 0

-- of the numbers 1 to n so many pass
abbrev named : (ℕ → List ℕ) → (ℕ → Bool) → ℕ → ℕ
named name p n = length (names_of name p n)

named_more : (name : ℕ → List ℕ) (p : ℕ → Bool) (n : ℕ) → named name p (suc n) ≡ named name p n + bit (p (suc n))
named_more name p n = ap length (names_more name p n) ∙ length-append (names_of name p n) (cond (p (suc n)) (name (suc n) ∷ []) []) ∙ ap (λ x. named name p n + x) (by (p (suc n)))
  where
    by : (b : Bool) → length (cond b (name (suc n) ∷ []) []) ≡ bit b
    by true = refl
    by false = refl

named_zero : (name : ℕ → List ℕ) (p : ℕ → Bool) → named name p 0 ≡ 0
named_zero name p = ap length (names_none name p)

one_of : (a b : Bool) → bit (a || b) ≤ bit a + bit b
one_of true true = omega arith
one_of true false = omega arith
one_of false true = omega arith
one_of false false = omega arith

-- what passes one of two tests
named_either : (name : ℕ → List ℕ) (p q r : ℕ → Bool) → ((k : ℕ) → p k ≡ (q k || r k)) → (n : ℕ) → named name p n ≤ named name q n + named name r n
named_either name p q r h zero = omega (arith, named_zero name p)
named_either name p q r h (suc n) = let e = one_of (q (suc n)) (r (suc n)) in
    omega (arith, named_more name p n, named_more name q n, named_more name r n, named_either name p q r h n, ap bit (h (suc n)))

named_none : (name : ℕ → List ℕ) (p : ℕ → Bool) → ((k : ℕ) → p k ≡ false) → (n : ℕ) → named name p n ≡ 0
named_none name p h zero = named_zero name p
named_none name p h (suc n) = omega (arith, named_more name p n, named_none name p h n, ap bit (h (suc n)))

named_before : (name : ℕ → List ℕ) (i n : ℕ) → n < i → named name (eqb i) n ≡ 0
named_before name i zero h = named_zero name (eqb i)
named_before name i (suc n) h = omega (arith, named_more name (eqb i) n, named_before name i n (omega arith), ap bit (ne_eqb i (suc n) (λ e. omega arith)))

named_one : (name : ℕ → List ℕ) (i n : ℕ) → named name (eqb i) n ≤ 1
named_one name i zero = omega (arith, named_zero name (eqb i))
named_one name i (suc n) = elim (ℕ_discrete i (suc n)) [
  | yes e ↦ omega (arith, named_more name (eqb i) n, named_before name i n (omega arith), ap bit (eq-eqb i (suc n) e))
  | no e ↦ omega (arith, named_more name (eqb i) n, named_one name i n, ap bit (ne_eqb i (suc n) e))
]

abbrev input_name : ℕ → List ℕ
input_name n = operand_text (Ix n)

abbrev timer_name : ℕ → List ℕ
timer_name t = operand_text (TimerQ t)

abbrev size : N.Things → ℕ
size s = named input_name s.inputs most_inputs + named timer_name s.timers most_timers

-- a literal names one thing
kind_one : (w : Bool) (k : Kind) → named input_name (λ n. w && (N.named k).inputs n) most_inputs + named timer_name (λ t. w && (N.named k).timers t) most_timers ≤ 1
unfolding N.named
kind_one false k = omega (arith, named_none input_name (λ n. false) (λ n. refl) most_inputs, named_none timer_name (λ n. false) (λ n. refl) most_timers)
kind_one true K.Unused = omega (arith, named_none input_name (λ n. false) (λ n. refl) most_inputs, named_none timer_name (λ n. false) (λ n. refl) most_timers)
kind_one true (K.Input i) = omega (arith, named_one input_name i most_inputs, named_none timer_name (λ n. false) (λ n. refl) most_timers)
kind_one true (K.Timer i) = omega (arith, named_none input_name (λ n. false) (λ n. refl) most_inputs, named_one timer_name i most_timers)
kind_one true K.Unknown = omega (arith, named_none input_name (λ n. false) (λ n. refl) most_inputs, named_none timer_name (λ n. false) (λ n. refl) most_timers)

module _ (c : Tables) (i : ℕ) (w : Bool) where
  -- k literals name no more than k things
  needed_few : (k : ℕ) → size (N.needed_by c i k w) ≤ k
  unfolding N.needed_by some
  needed_few zero = omega (arith, named_none input_name (N.needed_by c i 0 w).inputs (λ n. refl) most_inputs, named_none timer_name (N.needed_by c i 0 w).timers (λ n. refl) most_timers)
  needed_few (suc k) =
      let a = named_either input_name (N.needed_by c i (suc k) w).inputs (N.needed_by c i k w).inputs (λ n. N.wants c i k w && (N.named_at c i k).inputs n)
      (λ n. some_more (λ j. N.wants c i j w && (N.named_at c i j).inputs n) k) most_inputs in
      let b = named_either timer_name (N.needed_by c i (suc k) w).timers (N.needed_by c i k w).timers (λ t. N.wants c i k w && (N.named_at c i k).timers t)
      (λ t. some_more (λ j. N.wants c i j w && (N.named_at c i j).timers t) k) most_timers in
      omega (arith, a, b, needed_few k, kind_one (N.wants c i k w) (kind_of (nat_abs (literal c i k))))

union_few : (a b : N.Things) → size (N.union a b) ≤ size a + size b
union_few a b = omega (arith, named_either input_name (N.union a b).inputs a.inputs b.inputs (λ n. refl) most_inputs, named_either timer_name (N.union a b).timers a.timers b.timers (λ t. refl) most_timers)

-- ---- how long they are

decimal_two : (n : ℕ) → n < 100 → length (decimal n) ≤ 2
decimal_two n h = elim (dec_le 10 n) [
  | yes g ↦ (
      let e = ap length (decimal_last n g (omega arith)) in
      let f = ap length (decimal_small (n / 10) (omega arith)) in
      omega (arith, e, f, length-append (decimal (n / 10)) ((48 + n % 10) ∷ [])))
  | no g ↦ omega (arith, ap length (decimal_small n (omega arith)))
]

input_few : (n : ℕ) → n ≤ most_inputs → length (input_name n) ≤ 5
unfolding operand_text
input_few n h = omega (arith, decimal_two n (omega arith), length-append (bytes "%IX") (decimal n))

timer_few : (t : ℕ) → t ≤ most_timers → length (timer_name t) ≤ 5
unfolding operand_text
timer_few t h = omega (arith, decimal_two t (omega arith), length-append (bytes "T") (decimal t ++ bytes ".Q"), length-append (decimal t) (bytes ".Q"))

length_apart : (v w : List (List ℕ)) → length (apart (v ++ w)) ≡ length (apart v) + length (apart w)
length_apart v w = ap length (flat_map_append (λ x. 32 ∷ x) v w) ∙ length-append (apart v) (apart w)

apart_one : (w : List ℕ) → length (apart (w ∷ [])) ≡ suc (length w)
unfolding flat_map
apart_one w = ap (λ l. suc (length l)) (append-nil w)

names_few : (name : ℕ → List ℕ) (p : ℕ → Bool) (n : ℕ) → ((k : ℕ) → k ≤ n → length (name k) ≤ 5) → length (apart (names_of name p n)) ≤ 6 * named name p n
unfolding flat_map
names_few name p zero h = rw (names_none name p) (omega arith)
names_few name p (suc n) h =
    let e = ap (λ l. length (apart l)) (names_more name p n) ∙ length_apart (names_of name p n) (cond (p (suc n)) (name (suc n) ∷ []) []) in
    omega (arith, e, named_more name p n, by (p (suc n)), names_few name p n (λ k g. h k (omega arith)))
  where
    by : (b : Bool) → length (apart (cond b (name (suc n) ∷ []) [])) ≤ 6 * bit b
    by true = omega (arith, apart_one (name (suc n)), h (suc n) (omega arith))
    by false = omega arith

-- with what ends it
spaced_few : (ws : List (List ℕ)) (n : ℕ) → 2 ≤ n → length (apart ws) ≤ n → suc (length (spaced ws)) ≤ n
unfolding spaced flat_map
spaced_few [] n h g = h
spaced_few (w ∷ ws) n h g = g

things_few : (s : N.Things) (m : ℕ) → 1 ≤ m → size s ≤ m → suc (length (things_text s)) ≤ 6 * m
unfolding things_text thing_names
things_few s m h g = spaced_few (thing_names s) (6 * m) (omega arith) (omega (
  arith,
  g,
  length_apart (names_of input_name s.inputs most_inputs) (names_of timer_name s.timers most_timers),
  names_few input_name s.inputs most_inputs input_few,
  names_few timer_name s.timers most_timers timer_few,
))

-- ---- the lines

rows_few : (f : ℕ → List ℕ) (m : ℕ) → ((k : ℕ) → length (f k) ≤ m) → (i n : ℕ) → length (flat_map f (table (λ k. k) i n)) ≤ n * m
unfolding flat_map table
rows_few f m h i zero = omega arith
rows_few f m h i (suc n) = omega (arith, length-append (f i) (flat_map f (table (λ k. k) (suc i) n)), h i, rows_few f m h (suc i) n)

decimals_few : (f : ℕ → ℕ) (i n : ℕ) → length (apart (table (λ k. decimal (f k)) i n)) ≤ 21 * n
unfolding flat_map table
decimals_few f i zero = omega arith
decimals_few f i (suc n) = omega (arith, length-append (decimal (f i)) (apart (table (λ k. decimal (f k)) (suc i) n)), decimal_few (f i), decimals_few f (suc i) n)

levels_few : (c : Tables) (k s : ℕ) → levels c k s ≤ k
unfolding levels
levels_few c zero s = omega arith
levels_few c (suc k) zero = omega arith
levels_few c (suc k) (suc s) = omega (arith, levels_few c k (super_state c (suc s)))

upward_few : (c : Tables) (s : ℕ) → suc (length (upward c s)) ≤ 210
unfolding upward depth
upward_few c s = spaced_few (table (λ k. decimal (up c k s)) 0 (suc (depth c s))) 210 (omega arith)
    (omega (arith, decimals_few (λ k. up c k s) 0 (suc (depth c s)), levels_few c 9 s))

sets_few : (a b : N.Things) (m : ℕ) → 1 ≤ m → size a ≤ m → size b ≤ m → length (sets_of a b) ≤ 12 * m
sets_few a b m h g k = omega (arith, things_few a m h g, things_few b m h k, length-append (things_text a) (44 ∷ (things_text b ++ (10 ∷ []))), length-append (things_text b) (10 ∷ []))

cell_few : (n : ℕ) → length (cell_of n) ≤ 21
cell_few n = omega (arith, length-append (decimal n) (44 ∷ []), decimal_few n)

line_few : (c : Tables) (i : ℕ) → length (needs_line c i) ≤ 348
line_few c i = rw (← needs_line_lem c i) (omega (
  arith,
  length-append (way_of c i) (sets_of (N.needs_on c i) (N.needs_off c i)),
  length-append (cell_of i) (upward c (source c i) ++ (44 ∷ cell_of (target c i))),
  length-append (upward c (source c i)) (44 ∷ cell_of (target c i)),
  cell_few i,
  cell_few (target c i),
  upward_few c (source c i),
  sets_few (N.needs_on c i) (N.needs_off c i) 8 (omega arith) (needed_few c i true 8) (needed_few c i false 8),
))

overlap_few : (c : Tables) (i : ℕ) → length (overlap_line c i) ≤ 265
overlap_few c i =
    let j : ℕ = earlier c i in
    let s : ℕ = N.lower c j i in
    let a : N.Things = N.both_on c j i in
    let b : N.Things = N.both_off c j i in
    rw (← overlap_line_lem c i) (omega (
      arith,
      length-append (pair_of j i) (cell_of s ++ (bytes "-," ++ sets_of a b)),
      length-append (bytes "OVERLAP ") (decimal j ++ (32 ∷ cell_of i)),
      length-append (decimal j) (32 ∷ cell_of i),
      length-append (cell_of s) (bytes "-," ++ sets_of a b),
      length-append (bytes "-,") (sets_of a b),
      decimal_few j,
      cell_few i,
      cell_few s,
      sets_few a b 16 (omega arith)
          (omega (arith, union_few (N.needs_on c j) (N.needs_on c i), needed_few c j true 8, needed_few c i true 8))
          (omega (arith, union_few (N.needs_off c j) (N.needs_off c i), needed_few c j false 8, needed_few c i false 8)),
    ))

-- ---- the page

-- a line of the fields' names, 512 moves, an OVERLAP, and the verdict
abbrev pub most_needs : ℕ
most_needs = 178539

table_few : (c : Tables) → move_count c ≤ most_moves → length (needs_table c) ≤ 178224
unfolding needs_table line
table_few c h = omega (arith, length-append head_of (flat_map (needs_line c) (table (λ i. i) 0 (move_count c))), rows_few (needs_line c) 348 (line_few c) 0 (move_count c))

-- whatever the tables
pub needs_page_few : (c : Tables) → length (needs_page c (verdict c)) ≤ most_needs
needs_page_few c = by (verdict c) refl
  where
    by : (v : Verdict) → verdict c ≡ v → length (needs_page c v) ≤ most_needs
    by (Ok tt) e = unfold needs_page line in (omega (arith, length-append (needs_table c) (line (bytes "ACCEPTED")), table_few c (accepted_passed c e).size.few_moves))
    by (Err r) e = elim (dec_le 9 (number_of r)) [
      | yes h ↦ elim (dec_le (number_of r) 11) [
        | yes g ↦ elim (ℕ_discrete (number_of r) 10) [
          | yes z ↦ rw (← page_overlap c r z) (omega (
            arith,
            length-append (needs_table c) (overlap_line c (place_of r) ++ refusal_line r),
            length-append (overlap_line c (place_of r)) (refusal_line r),
            table_few c (refused_passed c r e h).size.few_moves,
            overlap_few c (place_of r),
            refusal_few r,
          ))
          | no z ↦ rw (← page_known c r h g z) (omega (arith, length-append (needs_table c) (refusal_line r), table_few c (refused_passed c r e h).size.few_moves, refusal_few r))
        ]
        | no g ↦ rw (← page_high c r (omega arith)) (omega (arith, refusal_few r))
      ]
      | no h ↦ rw (← page_low c r (omega arith)) (omega (arith, refusal_few r))
    ]
