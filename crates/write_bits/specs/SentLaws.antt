-- Laws of Sent.antt.
use Rattle.std.specs.Prelude.{◌≡◌, refl, ◌≢◌, Bool, true, false, ℕ, zero, suc, ◌+◌, ◌-◌, ◌^◌, ◌/◌, ◌%◌, ◌≤◌, length, ℤ, nat_abs, eqb}
use Rattle.std.proofs.Common.{sym, ap, ◌∙◌, zero-add, arith}
use Rattle.std.proofs.Math.Path.{fun_ext}
use mathlib.Core.List.{List, [], ◌∷◌, ◌++◌, map, flat_map, append-nil}
use Rattle.std.proofs.Math.Nat.{div-div-eq-div-mul, pow-succ'}
use Rattle.meaning.specs.Rows.{table}
use Rattle.meaning.proofs.Laws.Rows.{table_snoc, flat_map_append}
use Rattle.meaning.specs.Tables.{Tables, super_state, literal}
use Rattle.meaning.specs.Hierarchy.{depth}
use Rattle.meaning.specs.Layout.{group_first, group_width, flip_flop_count, code}
use Rattle.meaning.specs.Literals.{kind_of, wanted}
use Rattle.meaning.specs.Programs.{Test, load_of, and_of, chain_of}
use Rattle.meaning.specs.Written.{bits_from, group_bits, path_bits, bit_test, state_tests, bit_store, kind_test, chain}
use Rattle.meaning.specs.declared.Operand.{Operand}
use Rattle.meaning.specs.declared.Operator.{Operator}
use Rattle.format.specs.Text.{line, operand_text, operator_text}
use Rattle.write_lines.specs.Fit.{PutIfRoom, fit_fit, fit_none}
use Rattle.write_operators.specs.declared.Way.{Way}
use Rattle.write_operators.specs.declared.Way.TheVariants.{First, More, Store}
use Rattle.write_bits.specs.declared.Spot.{Spot}
use Rattle.write_bits.specs.Sent.{lines, test, operator_at, operators_at, way_after, TestsPut, or_true, bit_at, literals_to}
use Rattle.write_operators.specs.Ways.{operator_bytes, next, base_of}

-- ---- lines

pub lines_append : (is js : List Operator) → lines (is ++ js) ≡ lines is ++ lines js
unfolding lines
lines_append is js = flat_map_append _ is js

-- two writers in a row
pub put_lines : {l m n : List ℕ} {i j k : ℕ} (is js : List Operator) → PutIfRoom l i (lines is) m j → PutIfRoom m j (lines js) n k → PutIfRoom l i (lines (is ++ js)) n k
put_lines is js p q = rw (lines_append is js) (fit_fit p q)

-- one line more in front
pub put_cons : {l m n : List ℕ} {i j k : ℕ} (o : Operator) (is : List Operator) → PutIfRoom l i (line (operator_text o)) m j → PutIfRoom m j (lines is) n k → PutIfRoom l i (lines (o ∷ is)) n k
unfolding lines flat_map
put_cons o is p q = fit_fit p q

pub put_line : {l m : List ℕ} {i j : ℕ} (o : Operator) → PutIfRoom l i (line (operator_text o)) m j → PutIfRoom l i (lines (o ∷ [])) m j
unfolding lines flat_map
put_line o p = rw append-nil p

pub put_nil : (l : List ℕ) (i : ℕ) → length l ≤ 18446744073709551615 → i ≤ 18446744073709551615 → PutIfRoom l i (lines []) l i
unfolding lines flat_map
put_nil l i h g = fit_none l i h g

-- ---- tests one after the other

operators_append : (y : Way) (ts us : List Test) → operators_at y (ts ++ us) ≡ operators_at y ts ++ operators_at (way_after y ts) us
unfolding operators_at way_after
operators_append y [] us = refl
operators_append y (t ∷ ts) us = ap (λ is. operator_at y t ∷ is) (operators_append (next y) ts us)

after_append : (y : Way) (ts us : List Test) → way_after y (ts ++ us) ≡ way_after (way_after y ts) us
unfolding way_after
after_append y [] us = refl
after_append y (t ∷ ts) us = after_append (next y) ts us

pub sent_sent : {l m n : List ℕ} {p q r : Spot} {ts us : List Test} → TestsPut l p ts m q → TestsPut m q us n r → TestsPut l p (ts ++ us) n r
sent_sent {p = p} {ts = ts} {us} x y = record {
  put = rw (operators_append p.way ts us) (put_lines (operators_at p.way ts) (operators_at (way_after p.way ts) us) x.put (rw x.way at y.put));
  way = y.way ∙ ap (λ v. way_after v us) x.way ∙ sym (after_append p.way ts us);
}

asked_line : (y : Way) (w : Bool) (o : Operand) → line (operator_text (operator_at y (test w o))) ≡ operator_bytes y w ++ line (operand_text o)
unfolding line operator_text load_of and_of
asked_line First true o = refl
asked_line First false o = refl
asked_line More true o = refl
asked_line More false o = refl
asked_line Store true o = refl
asked_line Store false o = refl

-- a test's operator, and the rest of its line
pub one_put : {l m n : List ℕ} {i q r : ℕ} (y : Way) (w : Bool) (o : Operand) → PutIfRoom l i (operator_bytes y w) m q → PutIfRoom m q (line (operand_text o)) n r
    → PutIfRoom l i (lines (operators_at y (test w o ∷ []))) n r
unfolding lines flat_map operators_at
one_put y w o x z = rw append-nil (rw (asked_line y w o) (fit_fit x z))

pub sent_none : (l : List ℕ) (p : Spot) → length l ≤ 18446744073709551615 → p.at ≤ 18446744073709551615 → TestsPut l p [] l p
unfolding operators_at way_after lines flat_map
sent_none l p h g = record { put = fit_none l p.at h g; way = refl }

base_next : (b : ℕ) (y : Way) → base_of b (next y) ≡ base_of b y
base_next b First = refl
base_next b More = refl
base_next b Store = refl

pub base_after : (b : ℕ) (y : Way) (ts : List Test) → base_of b (way_after y ts) ≡ base_of b y
unfolding way_after
base_after b y [] = refl
base_after b y (t ∷ ts) = base_after b (next y) ts ∙ base_next b y

-- ---- chains

after_more : (ts : List Test) → way_after More ts ≡ More
unfolding way_after
after_more [] = refl
after_more (t ∷ ts) = after_more ts

more_and : (ts : List Test) → operators_at More ts ≡ map and_of ts
unfolding operators_at
more_and [] = refl
more_and (t ∷ ts) = ap (λ is. and_of t ∷ is) (more_and ts)

pub chain_lines : (ts : List Test) → operators_at First ts ++ or_true (way_after First ts) ≡ chain_of (chain ts)
unfolding operators_at way_after chain chain_of load_of
chain_lines [] = refl
chain_lines (t ∷ ts) = rw (after_more ts, more_and ts) (append-nil _)

pub chain_put : {l m n : List ℕ} {q : Spot} {i r : ℕ} (ts : List Test)
    → TestsPut l (record { at = i; way = First }) ts m q → PutIfRoom m q.at (lines (or_true q.way)) n r → PutIfRoom l i (lines (chain_of (chain ts))) n r
chain_put ts x y = rw (← chain_lines ts) (put_lines (operators_at First ts) (or_true (way_after First ts)) x.put (rw x.way at y))

-- ---- bits

-- one bit more, from the low end
pub bits_snoc : {A : Type 0} (f : Bool → ℕ → A) (o w k : ℕ) → bits_from f o (suc w) k ≡ bits_from f o w k ++ (f (eqb (k / 2 ^ w % 2) 1) (o + w) ∷ [])
unfolding bits_from
bits_snoc f o zero k =
    let e : k / 1 % 2 ≡ k % 2 = omega arith in
    let g : o + 0 ≡ o = omega arith in rw (e, g)
bits_snoc f o (suc w) k =
    let e : k / 2 / 2 ^ w ≡ k / 2 ^ suc w = div-div-eq-div-mul k 2 (2 ^ w) ∙ ap (λ n. k / n) (sym (pow-succ' 2 w)) in
    let g : o + suc w ≡ suc o + w = omega arith in
    rw (g, ← e) (ap (λ l. f (eqb (k % 2) 1) o ∷ l) (bits_snoc f (suc o) w (k / 2)))

-- tests are on the flip-flops themselves
pub bit_test_lem : (c : Tables) → bit_at 0 ≡ bit_test c
unfolding bit_test
bit_test_lem c = fun_ext (λ w. fun_ext (λ b. rw (zero-add b)))

pub state_tests_lem : (c : Tables) (s : ℕ) → path_bits c (bit_at 0) (depth c s) s ≡ state_tests c s
unfolding state_tests
state_tests_lem c s = ap (λ f. path_bits c f (depth c s) s) (bit_test_lem c)

pub after_store : (ts : List Test) → way_after Store ts ≡ Store
unfolding way_after
after_store [] = refl
after_store (t ∷ ts) = after_store ts

bits_stored : (c : Tables) (o w k : ℕ) → operators_at Store (bits_from (bit_at (flip_flop_count c)) o w k) ≡ bits_from (bit_store c) o w k
unfolding operators_at bits_from bit_store
bits_stored c o zero k = refl
bits_stored c o (suc w) k = ap (λ is. bit_store c (eqb (k % 2) 1) o ∷ is) (bits_stored c (suc o) w (k / 2))

-- stores are on the working copies
pub group_stored : (c : Tables) (a s : ℕ) → operators_at Store (group_bits c (bit_at (flip_flop_count c)) a s) ≡ group_bits c (bit_store c) a s
unfolding group_bits
group_stored c a s = bits_stored c (group_first c a) (group_width c a) (code c s)

pub path_stored : (c : Tables) (k s : ℕ) → operators_at Store (path_bits c (bit_at (flip_flop_count c)) k s) ≡ path_bits c (bit_store c) k s
unfolding path_bits operators_at
path_stored c zero s = refl
path_stored c (suc k) s =
    operators_append Store (path_bits c (bit_at (flip_flop_count c)) k (super_state c s)) (group_bits c (bit_at (flip_flop_count c)) (super_state c s) s)
    ∙ rw (after_store (path_bits c (bit_at (flip_flop_count c)) k (super_state c s)), path_stored c k (super_state c s), group_stored c (super_state c s) s)

-- one level further down
pub path_step : {l m n : List ℕ} {p q r : Spot} (c : Tables) (b k a s : ℕ) → k ≢ 0 → a ≡ super_state c s
    → TestsPut l p (path_bits c (bit_at (base_of b p.way)) (k - 1) a) m q
    → TestsPut m q (group_bits c (bit_at (base_of b q.way)) a s) n r
    → TestsPut l p (path_bits c (bit_at (base_of b p.way)) k s) n r
unfolding path_bits
path_step c b zero a s z e x y = absurd (z refl)
path_step {p = p} {q} c b (suc k) a s z e x y =
    let g : suc k - 1 ≡ k = omega arith in
    let w : base_of b q.way ≡ base_of b p.way = ap (base_of b) x.way ∙ base_after b p.way _ in
    sent_sent (rw (g, e) at x) (rw (w, e) at y)

-- ---- literals

pub literals_snoc : (c : Tables) (i n : ℕ) → literals_to c i (suc n) ≡ literals_to c i n ++ kind_test c (wanted (literal c i n)) (kind_of (nat_abs (literal c i n)))
unfolding literals_to flat_map
literals_snoc c i n =
    let F : ℤ → List Test = λ z. kind_test c (wanted z) (kind_of (nat_abs z)) in
    let e : 0 + n ≡ n = omega arith in
    ap (flat_map F) (table_snoc (literal c i) 0 n) ∙ flat_map_append F (table (literal c i) 0 n) (literal c i (0 + n) ∷ [])
    ∙ rw e (ap (λ l. flat_map F (table (literal c i) 0 n) ++ l) (append-nil (F (literal c i n))))
