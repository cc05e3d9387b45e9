-- The time of each block's rung in a list of words, and all that the words ask of a lent controller.
use Rattle.format.specs.Decode.{Decoded}
use Rattle.std.specs.Prelude.{◌≡◌, refl, ℕ, suc, ◌+◌, ◌-◌, ◌/◌, ◌≤◌, ◌<◌, min, Bool, true, false, ◌&&◌, cond, length, get_or, set, drop, replicate, leb, Some, None}
use Rattle.std.proofs.Common.{◌∙◌, arith, drop_of_length-le, drop-cons, add-one, leb-true, le-leb}
use Rattle.std.proofs.lemmas.Bool.{false≢true, lt-leb}
use mathlib.Core.List.{List, [], ◌∷◌, ◌++◌, map, flat_map}
use Rattle.std.proofs.lemmas.List.Edits.{sets}
use Rattle.meaning.proofs.Laws.Rows.{and_l, and_r, and_both}
use Rattle.meaning.specs.Tables.{most_timers}
use Rattle.meaning.specs.Programs.{Test, Chain, Part, also, bracket, Body, Rung, TimerRung, Program, load_of, and_of, chain_of, part_of, body_of, rung_of, timer_rung_of, timer_rungs_from, instructions, all, body_fits, store_fits, rung_fits, timer_rung_fits, program_fits, flip_flop_bytes}
use Rattle.meaning.specs.declared.Operand.{Operand}
use Rattle.meaning.specs.declared.Operator.{Operator}
use Rattle.meaning.specs.declared.Operator.TheVariants.{Ld, Ldn, And, Andn, Or, Close, St, S, R, Cal, LdTime}
use Rattle.format.specs.Words.{word, words}
use Rattle.format.specs.Decode.{operator_fits, decoded}
use Rattle.format.proofs.Laws.Decode.{decode_word, word_decode}
use Rattle.format.proofs.Laws.Passing.{program_instructions}
use Rattle.il_called.specs.Due.{due, called_by, block_of}
use Rattle.il_scan.specs.Scans.{Fitting}
use Rattle.il_sizes.specs.Bytes.{bytes_named, bytes_words}

unfoldable pub time_after : ℕ → Operator → ℕ
time_after t (Ld o) = t
time_after t (Ldn o) = t
time_after t (And o) = t
time_after t (Andn o) = t
time_after t Or = t
time_after t Close = t
time_after t (St o) = t
time_after t (S o) = t
time_after t (R o) = t
time_after t (Cal o) = t
time_after t (LdTime n) = n

-- the time loaded last
unfoldable pub time_in : ℕ → Decoded → ℕ
time_in t (Some i) = time_after t i
time_in t None = t

-- the time loaded last, and the times at the calls, in a list of 32
pub record Rungs : Type 0 where
  pub time : ℕ
  pub times : List ℕ

unfoldable pub rung_after : Decoded → Rungs → Rungs
rung_after i r = let t = time_in r.time i in
    cond (leb 32 (due 32 i)) (record { time = t; times = r.times }) (record { time = t; times = set r.times (due 32 i) t })

unfoldable pub rungs_in : List ℕ → Rungs → Rungs
rungs_in [] r = r
rungs_in (w ∷ ws) r = rungs_in ws (rung_after (decoded w) r)

abbrev pub no_rungs : Rungs
no_rungs = record { time = 0; times = replicate 32 0 }

-- ---- by the instructions of a program that fits

rungs_by : List Operator → Rungs → Rungs
rungs_by [] r = r
rungs_by (i ∷ is) r = rungs_by is (rung_after (Some i) r)

rungs_words : (is : List Operator) (r : Rungs) → all operator_fits is ≡ true → rungs_in (map word is) r ≡ rungs_by is r
unfolding all rungs_in rungs_by
rungs_words [] r e = refl
rungs_words (i ∷ is) r e = rw (rungs_in, decode_word i (and_l (operator_fits i) (all operator_fits is) e)) (rungs_words is _ (and_r (operator_fits i) (all operator_fits is) e))

rungs_append : (is js : List Operator) (r : Rungs) → rungs_by (is ++ js) r ≡ rungs_by js (rungs_by is r)
unfolding rungs_by
rungs_append [] js r = refl
rungs_append (i ∷ is) js r = rungs_append is js (rung_after (Some i) r)

-- instructions that call no block and load no time
Idle : List Operator → Type 0
Idle is = (r : Rungs) → rungs_by is r ≡ r

idle_then : (is js : List Operator) → Idle is → Idle js → Idle (is ++ js)
unfolding Idle
idle_then is js f g r = rungs_append is js r ∙ rw (f r) (g r)

idle_none : Idle []
unfolding Idle rungs_by
idle_none r = refl

idle_test : (w : Bool) (f g : Operand → Operator) (o : Operand) → Idle (f o ∷ []) → Idle (g o ∷ []) → Idle (cond w (f o) (g o) ∷ [])
idle_test true f g o a b = a
idle_test false f g o a b = b

idle_load : (t : Test) → Idle (load_of t ∷ [])
unfolding Idle rungs_by load_of rung_after time_in time_after due called_by
idle_load t = idle_test t.wanted Ld Ldn t.operand (λ r. refl) (λ r. refl)

idle_and : (t : Test) → Idle (and_of t ∷ [])
unfolding Idle rungs_by and_of rung_after time_in time_after due called_by
idle_and t = idle_test t.wanted And Andn t.operand (λ r. refl) (λ r. refl)

idle_ands : (ts : List Test) → Idle (map and_of ts)
idle_ands [] = idle_none
idle_ands (t ∷ ts) = idle_then (and_of t ∷ []) (map and_of ts) (idle_and t) (idle_ands ts)

idle_chain : (h : Chain) → Idle (chain_of h)
unfolding chain_of
idle_chain h = idle_then (load_of h.first ∷ []) (map and_of h.more) (idle_load h.first) (idle_ands h.more)

idle_bare : (i : Operator) → due 32 (Some i) ≡ 32 → ((t : ℕ) → time_after t i ≡ t) → Idle (i ∷ [])
unfolding Idle rungs_by rung_after time_in
idle_bare i e f r = rw (e, f r.time)

idle_part : (p : Part) → Idle (part_of p)
unfolding part_of due called_by time_after
idle_part (also t) = idle_and t
idle_part (bracket h) = idle_then (Or ∷ []) (chain_of h ++ (Close ∷ [])) (idle_bare Or refl (λ t. refl)) (idle_then (chain_of h) (Close ∷ []) (idle_chain h) (idle_bare Close refl (λ t. refl)))

idle_parts : (ps : List Part) → Idle (flat_map part_of ps)
unfolding flat_map
idle_parts [] = idle_none
idle_parts (p ∷ ps) = idle_then (part_of p) (flat_map part_of ps) (idle_part p) (idle_parts ps)

idle_body : (b : Body) → Idle (body_of b)
unfolding body_of
idle_body b = idle_then (load_of b.first ∷ []) (flat_map part_of b.parts) (idle_load b.first) (idle_parts b.parts)

idle_store : (i : Operator) → store_fits i ≡ true → Idle (i ∷ [])
unfolding store_fits due called_by time_after
idle_store (Ld o) e = absurd (false≢true e)
idle_store (Ldn o) e = absurd (false≢true e)
idle_store (And o) e = absurd (false≢true e)
idle_store (Andn o) e = absurd (false≢true e)
idle_store Or e = absurd (false≢true e)
idle_store Close e = absurd (false≢true e)
idle_store (St o) e = idle_bare (St o) refl (λ t. refl)
idle_store (S o) e = idle_bare (S o) refl (λ t. refl)
idle_store (R o) e = idle_bare (R o) refl (λ t. refl)
idle_store (Cal o) e = absurd (false≢true e)
idle_store (LdTime n) e = absurd (false≢true e)

idle_stores : (is : List Operator) → all store_fits is ≡ true → Idle is
unfolding all
idle_stores [] e = idle_none
idle_stores (i ∷ is) e = idle_then (i ∷ []) is (idle_store i (and_l (store_fits i) (all store_fits is) e)) (idle_stores is (and_r (store_fits i) (all store_fits is) e))

idle_rungs : (d : ℕ) (rs : List Rung) → all (rung_fits d) rs ≡ true → Idle (flat_map rung_of rs)
unfolding all flat_map rung_of rung_fits
idle_rungs d [] e = idle_none
idle_rungs d (r ∷ rs) e =
    let f : rung_fits d r ≡ true = and_l (rung_fits d r) (all (rung_fits d) rs) e in
    idle_then (rung_of r) (flat_map rung_of rs)
    (idle_then (body_of r.body) (r.store ∷ r.stores) (idle_body r.body) (idle_stores (r.store ∷ r.stores) (and_both _ _ (and_r (body_fits d r.body) _ (and_l _ (all store_fits r.stores) f)) (and_r (body_fits d r.body && store_fits r.store) _ f))))
    (idle_rungs d rs (and_r (rung_fits d r) (all (rung_fits d) rs) e))

-- the time of a timer rung is kept
timer_rung_lem : (k : ℕ) (t : TimerRung) (r : Rungs) → k < 32 → rungs_by (timer_rung_of (suc k) t) r ≡ record { time = t.time; times = set r.times k t.time }
unfolding timer_rung_of rungs_by rung_after time_in time_after due called_by block_of Idle
timer_rung_lem k t r h =
    let e : min (suc k - 1) 32 ≡ k = omega arith in
    rungs_append (body_of t.body) _ r ∙ rw (idle_body t.body r, e, lt-leb 32 k h)

timer_rungs : (k : ℕ) (ts : List TimerRung) (r : Rungs) → k + length ts ≤ 32 → (rungs_by (timer_rungs_from (suc k) ts) r).times ≡ sets r.times k (map (λ t. t.time) ts)
unfolding timer_rungs_from rungs_by
timer_rungs k [] r h = refl
timer_rungs k (t ∷ ts) r h =
    rw (rungs_append (timer_rung_of (suc k) t) (timer_rungs_from (suc (suc k)) ts) r, timer_rung_lem k t r (omega arith))
    (timer_rungs (suc k) ts (record { time = t.time; times = set r.times k t.time }) (omega arith))

-- what the words of a program that fits ask for
pub record SizesAsked (p : Program) (ws : List ℕ) : Type 0 where
  pub bytes : bytes_named ws ≡ flip_flop_bytes (instructions p)
  pub times : (rungs_in ws no_rungs).times ≡ sets (replicate 32 0) 0 (map (λ t. t.time) p.timers)

pub program_asks : (p : Program) (ws : List ℕ) → Fitting p ws → SizesAsked p ws
unfolding words instructions program_fits Idle
program_asks p ws f =
    let d = length p.timers in
    let h : (leb d most_timers && all (timer_rung_fits d) p.timers) ≡ true = and_l _ (all (rung_fits d) p.rungs) f.program in
    let few : d ≤ 32 = leb-true d 32 (and_l (leb d most_timers) (all (timer_rung_fits d) p.timers) h) in
    let k = program_instructions p f.program in
    let e : rungs_in ws no_rungs ≡ rungs_by (timer_rungs_from 1 p.timers) no_rungs =
    rw (← f.list, rungs_words (instructions p) no_rungs k) (rungs_append (timer_rungs_from 1 p.timers) (flat_map rung_of p.rungs) no_rungs
    ∙ idle_rungs d p.rungs (and_r (leb d most_timers && all (timer_rung_fits d) p.timers) _ f.program) _) in
    let r = timer_rungs 0 p.timers no_rungs (omega arith) in
    record { bytes = rw (← f.list) (bytes_words (instructions p) k); times = rw e r }

-- ---- one word after the other

pub rungs_on : (ws : List ℕ) (i : ℕ) (r : Rungs) → i < length ws → rungs_in (drop i ws) r ≡ rungs_in (drop (i + 1) ws) (rung_after (decoded (get_or ws i 0)) r)
unfolding rungs_in
rungs_on ws i r h = rw (drop-cons ws i 0 h, add-one)

pub rungs_end : (ws : List ℕ) (i : ℕ) (r : Rungs) → length ws ≤ i → rungs_in (drop i ws) r ≡ r
unfolding rungs_in
rungs_end ws i r h = rw (drop_of_length-le ws {i = i} h)

pub rung_called : (i : Decoded) (t : ℕ) (ts : List ℕ) → due 32 i < 32 → rung_after i (record { time = t; times = ts }) ≡ record { time = time_in t i; times = set ts (due 32 i) (time_in t i) }
unfolding rung_after
rung_called i t ts h = rw (lt-leb 32 (due 32 i) h)

pub rung_none : (i : Decoded) (t : ℕ) (ts : List ℕ) → 32 ≤ due 32 i → rung_after i (record { time = t; times = ts }) ≡ record { time = time_in t i; times = ts }
unfolding rung_after
rung_none i t ts h = rw (le-leb 32 (due 32 i) h)

-- no time is loaded by what is below CAL
pub not_timed : (t w : ℕ) → w / 134217728 < 10 → time_in t (decoded w) ≡ t
unfolding time_in time_after word
not_timed t w h = at (decoded w) (word_decode w)
  where
    at : (d : Decoded) → ((i : Operator) → d ≡ Some i → (operator_fits i ≡ true) × (word i ≡ w)) → time_in t d ≡ t
    at None f = refl
    at (Some (Ld o)) f = refl
    at (Some (Ldn o)) f = refl
    at (Some (And o)) f = refl
    at (Some (Andn o)) f = refl
    at (Some Or) f = refl
    at (Some Close) f = refl
    at (Some (St o)) f = refl
    at (Some (S o)) f = refl
    at (Some (R o)) f = refl
    at (Some (Cal o)) f = refl
    at (Some (LdTime n)) f = absurd (omega (arith, (f (LdTime n) refl).1))
