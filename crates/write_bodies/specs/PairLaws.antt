-- Laws of Pairs.antt: in an ascending table the rows for n stand together.
use Rattle.std.specs.Prelude.{◌≡◌, ◌≢◌, cond, eqb}
use Rattle.std.proofs.Math.Path.{refl, ap}
use Rattle.std.proofs.Common.{ap₂, ◌∙◌, ⊎_elim, eq-eqb, ne_eqb}
use mathlib.Core.List.{List, [], ◌∷◌, ◌++◌, map, flat_map, append-nil}
use Prim.Native.Nat.{ℕ, zero, suc, ◌+◌, ◌-◌, ◌≤◌, ◌<◌}
use native.Mathlib.Omega.{arith}
use Rattle.std.proofs.Math.Decide.{dec_le}
use Rattle.meaning.specs.Rows.{table}
use Rattle.meaning.proofs.Laws.Rows.{flat_map_append, rows_snoc}
use Rattle.meaning.specs.Tables.{Tables, pair_count, pair_number, pair_state}
use Rattle.meaning.specs.Programs.{Test, also, bracket, load_of, and_of, chain_of, part_of, body_of}
use Rattle.meaning.specs.Written.{state_tests, chain, or_body, and_body, pair_states, pairs_body}
use Rattle.write_bodies.specs.Pairs.{Known, bracket_of, brackets, or_of, PairsRun, Pairs, Reaches}

-- ---- bodies

flat_map_also : (ts : List Test) → flat_map part_of (map also ts) ≡ map and_of ts
unfolding flat_map part_of
flat_map_also [] = refl
flat_map_also (t ∷ ts) = ap (λ is. and_of t ∷ is) (flat_map_also ts)

flat_map_brackets : (tss : List (List Test)) → flat_map part_of (map (λ us. bracket (chain us)) tss) ≡ flat_map bracket_of tss
unfolding flat_map bracket_of
flat_map_brackets [] = refl
flat_map_brackets (ts ∷ tss) = ap (λ is. part_of (bracket (chain ts)) ++ is) (flat_map_brackets tss)

pub or_lines : (ts : List Test) (tss : List (List Test)) → body_of (or_body (ts ∷ tss)) ≡ chain_of (chain ts) ++ flat_map bracket_of tss
unfolding body_of or_body chain_of
or_lines ts tss = ap (λ is. load_of (chain ts).first ∷ is)
    (flat_map_append part_of (map also (chain ts).more) (map (λ us. bracket (chain us)) tss) ∙ ap₂ (λ x y. x ++ y) (flat_map_also (chain ts).more) (flat_map_brackets tss))

pub and_lines : (ts : List Test) → body_of (and_body ts) ≡ chain_of (chain ts)
unfolding and_body flat_map
and_lines ts = or_lines ts [] ∙ append-nil _

-- ---- the OR of some rows

table_append : (i k m : ℕ) → table (λ j. j) i (k + m) ≡ table (λ j. j) i k ++ table (λ j. j) (i + k) m
unfolding table
table_append i zero m =
    let e : 0 + m ≡ m = omega arith in
    let f : i + 0 ≡ i = omega arith in rw (e, f)
table_append i (suc k) m =
    let e : suc k + m ≡ suc (k + m) = omega arith in
    let f : i + suc k ≡ suc i + k = omega arith in rw (e, f) (ap (λ l. i ∷ l) (table_append (suc i) k m))

-- one more bracket
pub brackets_snoc : (c : Tables) (ps : List ℕ) (from n : ℕ) → brackets c ps from (suc n) ≡ brackets c ps from n ++ bracket_of (state_tests c (pair_state ps (from + n)))
unfolding brackets
brackets_snoc c ps from n = rows_snoc (λ i. bracket_of (state_tests c (pair_state ps i))) from n

brackets_of : (c : Tables) (ps : List ℕ) (from n : ℕ) → flat_map bracket_of (map (state_tests c) (table (pair_state ps) from n)) ≡ brackets c ps from n
unfolding brackets flat_map table
brackets_of c ps from zero = refl
brackets_of c ps from (suc n) = ap (λ is. bracket_of (state_tests c (pair_state ps from)) ++ is) (brackets_of c ps (suc from) n)

-- the first row, and a bracket for each further one
pub or_first : (c : Tables) (ps : List ℕ) (from n : ℕ) → n ≢ 0 → or_of c ps from n ≡ chain_of (chain (state_tests c (pair_state ps from))) ++ brackets c ps (suc from) (n - 1)
unfolding or_of table
or_first c ps from zero h = absurd (h refl)
or_first c ps from (suc n) h =
    let e : suc n - 1 ≡ n = omega arith in
    rw (e, ← brackets_of c ps (suc from) n) (or_lines (state_tests c (pair_state ps from)) (map (state_tests c) (table (pair_state ps) (suc from) n)))

-- ---- ascending rows

module _ (c : Tables) (many : ℕ) (ps : List ℕ) (P : Pairs c many ps) where
  pub known : (from to : ℕ) → to ≤ pair_count ps → Known c ps from to
  known from to h i a b = (P i (omega arith)).state

  rises_by : (k i : ℕ) → i + k < pair_count ps → pair_number ps i ≤ pair_number ps (i + k)
  rises_by zero i h = let e : i + 0 ≡ i = omega arith in rw e (omega arith)
  rises_by (suc k) i h =
      let z = rises_by k i (omega arith) in
      let e : suc (i + k) ≡ i + suc k = omega arith in
      ⊎_elim (λ l. omega (arith, l)) (λ l. omega (arith, l.0)) ((P (i + suc k) h).ascending (i + k) e)

  rises_to : (i j : ℕ) → i ≤ j → j < pair_count ps → pair_number ps i ≤ pair_number ps j
  rises_to i j h l = let e : i + (j - i) ≡ j = omega arith in rw e at (rises_by (j - i) i (omega arith))

  pub reaches_start : Reaches ps 1 0
  reaches_start = record { within = omega arith; before = λ i h. absurd (omega arith); rest = λ i a h. (P i h).low }

  module _ (n from to : ℕ) (F : Reaches ps n from) (G : PairsRun ps n from to) where
    pub reaches_next : Reaches ps (suc n) to
    reaches_next = record {
      within = G.within F.within;
      before = λ i h. elim (dec_le from i) [ yes a ↦ omega (arith, G.same i a h) | no a ↦ omega (arith, F.before i (omega arith)) ];
      rest = λ i a h.
          (let x = rises_to to i a h in
          let y = F.rest to G.rises (omega arith) in
          let z = G.stop (omega arith) in omega arith);
    }

    picked : ℕ → List ℕ
    picked i = cond (eqb (pair_number ps i) n) (pair_state ps i ∷ []) []

    none : (i k : ℕ) → ((j : ℕ) → i ≤ j → j < i + k → pair_number ps j ≢ n) → flat_map picked (table (λ j. j) i k) ≡ []
    unfolding flat_map table picked
    none i zero h = refl
    none i (suc k) h = rw (ne_eqb (pair_number ps i) n (h i (omega arith) (omega arith))) (none (suc i) k (λ j a b. h j (omega arith) (omega arith)))

    each : (i k : ℕ) → ((j : ℕ) → i ≤ j → j < i + k → pair_number ps j ≡ n) → flat_map picked (table (λ j. j) i k) ≡ table (pair_state ps) i k
    unfolding flat_map table picked pair_state
    each i zero h = refl
    each i (suc k) h = rw (eq-eqb (pair_number ps i) n (h i (omega arith) (omega arith))) (ap (λ l. pair_state ps i ∷ l) (each (suc i) k (λ j a b. h j (omega arith) (omega arith))))

    split : (i k m : ℕ) → flat_map picked (table (λ j. j) i (k + m)) ≡ flat_map picked (table (λ j. j) i k) ++ flat_map picked (table (λ j. j) (i + k) m)
    split i k m = ap (flat_map picked) (table_append i k m) ∙ flat_map_append picked (table (λ j. j) i k) (table (λ j. j) (i + k) m)

    pub pair_states_lem : pair_states ps n ≡ table (pair_state ps) from (to - from)
    unfolding pair_states picked
    pair_states_lem =
        let w = G.within F.within in
        let u = G.rises in
        let e : pair_count ps ≡ from + ((to - from) + (pair_count ps - to)) = omega arith in
        let z : 0 + from ≡ from = omega arith in
        let y : from + (to - from) ≡ to = omega arith in
        ap (λ n. flat_map picked (table (λ j. j) 0 n)) e
        ∙ split 0 from ((to - from) + (pair_count ps - to))
        ∙ rw (z, none 0 from (λ j a b. let h = F.before j (omega arith) in omega arith), split from (to - from) (pair_count ps - to), y)
        (rw (each from (to - from) (λ j a b. G.same j a (omega arith)), none to (pair_count ps - to) (λ j a b. let h = reaches_next.rest j a (omega arith) in omega arith)) (append-nil _))

    -- the rows of the run are those of n
    pub pairs_body_lem : or_of c ps from (to - from) ≡ body_of (pairs_body c ps n)
    unfolding or_of pairs_body
    pairs_body_lem = rw pair_states_lem
