-- That the checks, in their order, and the run over the lent row come to what Runs allows.
use Rattle.meaning.specs.Refusals.{Answer}
use Rattle.meaning.specs.Refusals.{Verdict}
use Rattle.std.specs.Prelude.{◌≡◌, ◌↔◌, ℕ, zero, suc, ◌+◌, ◌≤◌, ◌<◌, Bool, false, ◌&&◌, List, [], ◌∷◌, ◌++◌, get_or, ltb, eqb, Ok, Err}
use Rattle.std.proofs.Math.Path.{refl, sym}
use Rattle.std.proofs.Common.{ap, ◌∙◌, append-nil, drop_of_length-le, lt-ltb, le-leb, leb-true, eqb-true}
use native.Mathlib.Omega.{arith}
use Rattle.std.proofs.Math.Bool.{true}
use Rattle.std.proofs.lemmas.Bool.{false≢true, eqb-false}
use Rattle.std.proofs.Math.ListN.{length}
use Rattle.std.proofs.lemmas.List.Edits.{sets, sets-eq}
use Rattle.meaning.proofs.Laws.Rows.{and_l, and_r, and_both}
use Rattle.meaning.specs.Tables.{most_scan_step}
use Rattle.meaning.specs.Literals.{between}
use Rattle.meaning.specs.Programs.{TimerRung, Program, instructions}
use Rattle.meaning.specs.Scan.{ValidController, blank, scanned}
use Rattle.meaning.specs.declared.Block.{Block}
use Rattle.meaning.specs.declared.Refusal.{Refusal}
use Rattle.meaning.specs.declared.Refusal.TheVariants.{Size}
use Rattle.il_scan.specs.Scans.{controller_of, Fitting}
use Rattle.il_times.specs.Sizes.{rungs_in, no_rungs, SizesAsked, program_asks}
use Rattle.il_times.specs.Validity.{time_at, some_rung, few_timers_lem}
use Rattle.il_check.specs.Judged.{StatePasses, JudgedBy, rest_of, is_accepted}
use Rattle.il_block.specs.Called.{in_its_time}
use Rattle.il_scan.specs.Row.{scan_of, RowScan}
use Rattle.il_run.specs.Row.{in_time, RowRun, run_of}
use Rattle.il_run.specs.RowLaws.{row_scan_right, row_run_right}
use Rattle.il_run.specs.Runs.{Refuses, AcceptsRun, Ends, ProgramRan, ProgramScanned, run_ends}

-- ---- the blocks in time

in_its_time_lem : (bs : List Block) (ts : List ℕ) (i : ℕ) (ok : Bool) → in_time i bs ts ok ≡ true → (ok ≡ true) × ((t j : ℕ) → j ≡ i + t → t < length bs → in_its_time j (get_or bs t blank) ts ≡ true)
unfolding in_time
in_its_time_lem [] ts i ok e = (e, λ t j f h. absurd (omega arith))
in_its_time_lem (b ∷ bs) ts i ok e =
    let r = in_its_time_lem bs ts (suc i) (ok && in_its_time i b ts) e in
    (and_l ok (in_its_time i b ts) r.0, λ t. each t r)
  where
    each : (t : ℕ) → ((ok && in_its_time i b ts) ≡ true) × ((u j : ℕ) → j ≡ suc i + u → u < length bs → in_its_time j (get_or bs u blank) ts ≡ true) → (j : ℕ) → j ≡ i + t → t < suc (length bs) → in_its_time j (get_or (b ∷ bs) t blank) ts ≡ true
    each zero r j f h = let g : j ≡ i = omega arith in rw g (and_r ok (in_its_time i b ts) r.0)
    each (suc t) r j f h = r.1 t j (omega arith) (omega arith)

all_in_time : (bs : List Block) (ts : List ℕ) (i : ℕ) (ok : Bool) → ok ≡ true → ((t j : ℕ) → j ≡ i + t → t < length bs → in_its_time j (get_or bs t blank) ts ≡ true) → in_time i bs ts ok ≡ true
unfolding in_time
all_in_time [] ts i ok e h = e
all_in_time (b ∷ bs) ts i ok e h = all_in_time bs ts (suc i) (ok && in_its_time i b ts) (and_both ok (in_its_time i b ts) e (h 0 i (omega arith) (omega arith))) (λ t j f g. h (suc t) j (omega arith) (omega arith))

-- ---- what the tests come to

abbrev pub timely_of : List ℕ → List Block → Bool
timely_of ws bs = in_time 0 bs (rungs_in ws no_rungs).times true

module _ (p : Program) (ws fs : List ℕ) (bs : List Block) (f : Fitting p ws) where
  asks : SizesAsked p ws
  asks = program_asks p ws f

  its_time : (t : ℕ) (r : TimerRung) → t < length p.timers → get_or (rungs_in ws no_rungs).times t 0 ≡ (get_or p.timers t r).time
  its_time t r h = rw asks.times (time_at p.timers t r h (few_timers_lem p ws f))

  state_valid : StatePasses ws fs (length bs) (length p.timers) (timely_of ws bs) → ValidController p (controller_of fs bs)
  unfolding in_its_time
  state_valid s =
      let n : length bs ≡ length p.timers = s.blocks in
      record {
        bits = s.bits;
        size = s.size ∙ asks.bytes;
        blocks = n;
        times = λ t r h. rw (← its_time t r h) (leb-true (get_or bs t blank).et (get_or (rungs_in ws no_rungs).times t 0) (and_r (ltb t 32) _ ((in_its_time_lem bs (rungs_in ws no_rungs).times 0 true s.times).1 t t (omega arith) (omega (arith, n)))));
      }

  valid_state : ValidController p (controller_of fs bs) → StatePasses ws fs (length bs) (length p.timers) (timely_of ws bs)
  unfolding in_its_time
  valid_state v =
      let few = few_timers_lem p ws f in
      record {
        size = v.size ∙ sym asks.bytes;
        blocks = v.blocks;
        bits = v.bits;
        times = all_in_time bs (rungs_in ws no_rungs).times 0 true refl (λ t j g h. (let e : j ≡ t = omega arith in let k : t < length p.timers = omega (arith, v.blocks) in
            rw e (and_both (ltb t 32) _ (lt-ltb t 32 (omega arith)) (le-leb (get_or bs t blank).et (get_or (rungs_in ws no_rungs).times t 0) (rw (its_time t some_rung k) (v.times t some_rung k))))));
      }

-- ---- the checks, in their order

refusal : Verdict → Refusal
refusal (Ok tt) = Size
refusal (Err q) = q

not_accepted : {v : Verdict} {q : Refusal} → v ≡ Err q → is_accepted v ≡ true → ⊥
not_accepted e a = false≢true (sym (ap is_accepted e) ∙ a)

refused_same : {v : Verdict} {q s : Refusal} → v ≡ Err q → v ≡ Err s → q ≡ s
unfolding refusal
refused_same e f = sym (ap refusal e) ∙ ap refusal f

module _ {d : ℕ} {ws fs : List ℕ} {bs : List Block} {i m : ℕ} {v : Verdict} where
  accepts_rest : between 1 most_scan_step d ≡ true → (p : Program) → Fitting p ws → (ok fit : Bool) → (ok ≡ true) ↔ StatePasses ws fs (length bs) (length p.timers) (timely_of ws bs) → fit ≡ eqb m i → v ≡ rest_of ok fit → is_accepted v ≡ true → AcceptsRun d ws (controller_of fs bs) i m p
  accepts_rest b p f true true h g e a = record { step = b; program = f.program; list = f.list; state = state_valid p ws fs bs f (h.0 refl); scans = eqb-true m i (sym g) }
  accepts_rest b p f true false h g e a = absurd (not_accepted e a)
  accepts_rest b p f false fit h g e a = absurd (not_accepted e a)

  accepts : JudgedBy d ws fs (length bs) (timely_of ws bs) i m v → is_accepted v ≡ true → (p : Program) × AcceptsRun d ws (controller_of fs bs) i m p
  accepts (JudgedBy.step b e) a = absurd (not_accepted e a)
  accepts (JudgedBy.text b k w e) a = absurd (not_accepted e a)
  accepts (JudgedBy.rest b p f ok h e) a = (p, accepts_rest b p f ok (eqb m i) h refl e a)

  refuses_rest : between 1 most_scan_step d ≡ true → (p : Program) → Fitting p ws → (ok fit : Bool) → (ok ≡ true) ↔ StatePasses ws fs (length bs) (length p.timers) (timely_of ws bs) → fit ≡ eqb m i → v ≡ rest_of ok fit → (q : Refusal) → v ≡ Err q → Refuses d ws (controller_of fs bs) i m q
  refuses_rest b p f true true h g e q a = absurd (not_accepted a (ap is_accepted e))
  refuses_rest b p f true false h g e q a = Refuses.scans b p f.program f.list (state_valid p ws fs bs f (h.0 refl)) (eqb-false m i (sym g)) (refused_same a e)
  refuses_rest b p f false fit h g e q a = Refuses.state b p f.program f.list (λ w. false≢true (h.1 (valid_state p ws fs bs f w))) (refused_same a e)

  refuses : JudgedBy d ws fs (length bs) (timely_of ws bs) i m v → (q : Refusal) → v ≡ Err q → Refuses d ws (controller_of fs bs) i m q
  refuses (JudgedBy.step b e) q a = Refuses.step b (refused_same a e)
  refuses (JudgedBy.text b k w e) q a = Refuses.text b k w (refused_same a e)
  refuses (JudgedBy.rest b p f ok h e) q a = refuses_rest b p f ok (eqb m i) h refl e q a

-- ---- the answers

outputs_long : (d : ℕ) (ws fs : List ℕ) (bs : List Block) (xs : List ℕ) → length (run_of d ws fs bs xs).os ≡ length xs
unfolding run_of
outputs_long d ws fs bs [] = refl
outputs_long d ws fs bs (x ∷ xs) = let z = scan_of d x ws fs bs in ap suc (outputs_long d ws z.flip_flops z.bs xs)

-- results as long as the slice take its place
all_set : (l r : List ℕ) → length l ≡ length r → sets l 0 r ≡ r
all_set l r e =
    let h : 0 + length r ≤ length l = omega arith in
    let z : length l ≤ 0 + length r = omega arith in
    sets-eq r l 0 h ∙ ap (λ (t : List ℕ). r ++ t) (drop_of_length-le l {i = 0 + length r} z) ∙ append-nil r

few : {d : ℕ} {ws fs : List ℕ} {bs : List Block} {i m : ℕ} {p : Program} → AcceptsRun d ws (controller_of fs bs) i m p → length bs ≤ 64
few {ws = ws} {p = p} a = let n = few_timers_lem p ws (record { program = a.program; list = a.list }) in omega (arith, a.state.blocks)

pub run_done : {d : ℕ} {ws xs fs : List ℕ} {bs : List Block} {l : List ℕ} {timely : Bool} {r : Answer} {n : ℕ} {fs' : List ℕ} {bs' : List Block} {l' : List ℕ} → timely ≡ timely_of ws bs → JudgedBy d ws fs (length bs) timely (length xs) (length l) (Ok tt)
    → RowRun d ws xs fs bs l fs' bs' l' → n ≡ length xs → r ≡ Ok n → ProgramRan d ws xs (controller_of fs bs) l r (controller_of fs' bs') l'
run_done {d} {ws} {xs} {fs} {bs} {l} {fs' = fs'} {bs' = bs'} t j u n r =
    let a = accepts (rw t at j) refl in
    let p = a.0 in
    let g = row_run_right d p ws fs bs xs (record { program = a.1.program; list = a.1.list }) (few a.1) in
    let k : controller_of fs' bs' ≡ controller_of (run_of d ws fs bs xs).flip_flops (run_of d ws fs bs xs).bs = rw (u.flip_flops, u.blocks) in
    let o = outputs_long d ws fs bs xs in
    run_ends (Ends.ran p a.1 (r ∙ ap Ok n) (k ∙ g.0) (u.results ∙ all_set l (run_of d ws fs bs xs).os (a.1.scans ∙ sym o) ∙ g.1))

pub run_refused : {d : ℕ} {ws xs fs : List ℕ} {bs : List Block} {l : List ℕ} {q : Refusal} {timely : Bool} → timely ≡ timely_of ws bs → JudgedBy d ws fs (length bs) timely (length xs) (length l) (Err q)
    → ProgramRan d ws xs (controller_of fs bs) l (Err q) (controller_of fs bs) l
run_refused {q = q} t j = run_ends (Ends.refused q (refuses (rw t at j) q refl) refl refl refl)

pub scan_done : {d : ℕ} {ws fs : List ℕ} {x : ℕ} {bs : List Block} {timely : Bool} {r : Answer} {o : ℕ} {fs' : List ℕ} {bs' : List Block} → timely ≡ timely_of ws bs → JudgedBy d ws fs (length bs) timely 1 1 (Ok tt)
    → RowScan d x ws fs bs fs' bs' o → r ≡ Ok o → ProgramScanned d ws x (controller_of fs bs) r (controller_of fs' bs')
scan_done {d} {ws} {fs} {x} {bs} {fs' = fs'} {bs' = bs'} t j u r =
    let a = accepts (rw t at j) refl in
    let p = a.0 in
    let g = row_scan_right d x p ws fs bs (record { program = a.1.program; list = a.1.list }) (few a.1) in
    let k : controller_of fs' bs' ≡ scanned d x (instructions p) (controller_of fs bs) = rw (u.flip_flops, u.blocks) g.0 in
    ProgramScanned.ran p a.1 (r ∙ ap Ok (u.outputs ∙ g.1)) k

pub scan_refused : {d : ℕ} {ws fs : List ℕ} {x : ℕ} {bs : List Block} {q : Refusal} {timely : Bool} → timely ≡ timely_of ws bs → JudgedBy d ws fs (length bs) timely 1 1 (Err q)
    → ProgramScanned d ws x (controller_of fs bs) (Err q) (controller_of fs bs)
scan_refused {q = q} t j = ProgramScanned.refused q (refuses (rw t at j) q refl) refl refl
