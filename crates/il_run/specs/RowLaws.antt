-- The laws of what is read of a row, and of a scan and a run over it: one turn of each loop, and what they come to for a
-- program that fits.
use Rattle.std.specs.Prelude.{◌≡◌, refl, ℕ, zero, suc, ◌+◌, ◌≤◌, ◌<◌, Bool, false, ◌&&◌, List, [], ◌∷◌, ◌++◌, map, length, get_or, set, drop}
use Rattle.std.proofs.Common.{sym, ap, ◌∙◌, add-one, arith, append_assoc, drop_of_length-le, length-append, drop-cons}
use Rattle.std.proofs.Math.ListN.{replicate}
use Rattle.std.proofs.lemmas.List.{length-replicate}
use Rattle.std.proofs.Math.Seq.{sets}
use Rattle.meaning.specs.Machine.{word_of}
use Rattle.meaning.specs.Programs.{Program, instructions}
use Rattle.meaning.specs.Scan.{Controller, blank, scanned, output_word, scanned_all, output_trace}
use Rattle.meaning.specs.declared.Block.{Block}
use Rattle.il_values.specs.Value.{with_bit, qs_of}
use Rattle.il_values.specs.Bits.{word_set}
use Rattle.il_scan.specs.Run.{ScanPoint}
use Rattle.il_scan.specs.Row.{q_word, scan_of, RowScan}
use Rattle.il_scan.specs.Scans.{controller_of, whole_from, after_scan, output_after, Fitting, scan_right, after_length, OneScan}
use Rattle.il_block.specs.Called.{in_its_time}
use Rattle.il_run.specs.Row.{in_time, RunData, run_of, RowRun}

-- ---- one turn

pub time_on : (bs : List Block) (ts : List ℕ) (i : ℕ) (ok : Bool) → i < length bs → in_time i (drop i bs) ts ok ≡ in_time (i + 1) (drop (i + 1) bs) ts (ok && in_its_time i (get_or bs i blank) ts)
unfolding in_time
time_on bs ts i ok h = rw (drop-cons bs i blank h, add-one)

pub time_end : (bs : List Block) (ts : List ℕ) (i : ℕ) (ok : Bool) → length bs ≤ i → in_time i (drop i bs) ts ok ≡ ok
unfolding in_time
time_end bs ts i ok h = rw (drop_of_length-le bs {i = i} h)

-- after a block out of its time none of the rest changes the answer
pub time_out : (bs : List Block) (ts : List ℕ) (i : ℕ) → in_time i bs ts false ≡ false
unfolding in_time
time_out [] ts i = refl
time_out (b ∷ bs) ts i = time_out bs ts (suc i)

-- ---- a run, scan after scan

-- after i scans of a run from fs, bs and the results l: the rest of them leads to its end
pub record RanOn (d : ℕ) (ws xs fs : List ℕ) (bs : List Block) (l : List ℕ) (i : ℕ) (l' fs' : List ℕ) (bs' : List Block) : Type 0 where
  pub flip_flops : (run_of d ws fs' bs' (drop i xs)).flip_flops ≡ (run_of d ws fs bs xs).flip_flops
  pub blocks : (run_of d ws fs' bs' (drop i xs)).bs ≡ (run_of d ws fs bs xs).bs
  pub results : sets l' i (run_of d ws fs' bs' (drop i xs)).os ≡ sets l 0 (run_of d ws fs bs xs).os

pub run_start : {d : ℕ} {ws xs fs : List ℕ} {bs : List Block} {l : List ℕ} → RanOn d ws xs fs bs l 0 l fs bs
run_start = record { flip_flops = refl; blocks = refl; results = refl }

pub run_turn : {d : ℕ} {ws xs fs : List ℕ} {bs : List Block} {l : List ℕ} {i : ℕ} {l' fs' : List ℕ} {bs' : List Block} {x o : ℕ} {fs'' : List ℕ} {bs'' : List Block} {l'' : List ℕ} → i < length xs
    → x ≡ get_or xs i 0 → RowScan d x ws fs' bs' fs'' bs'' o → l'' ≡ set l' i o → RanOn d ws xs fs bs l i l' fs' bs' → RanOn d ws xs fs bs l (i + 1) l'' fs'' bs''
unfolding run_of
run_turn {d} {ws} {xs} {fs} {bs} {l} {i} {l'} {fs'} {bs'} {x} {o} {fs''} {bs''} {l''} h e s g r =
    let c : drop i xs ≡ get_or xs i 0 ∷ drop (suc i) xs = drop-cons xs i 0 h in
    let a : run_of d ws fs' bs' (drop i xs) ≡ run_of d ws fs' bs' (x ∷ drop (suc i) xs) = rw (c, e) in
    let b : run_of d ws fs'' bs'' (drop (suc i) xs) ≡ run_of d ws (scan_of d x ws fs' bs').flip_flops (scan_of d x ws fs' bs').bs (drop (suc i) xs) = rw (s.flip_flops, s.blocks) in
    record {
      flip_flops = rw add-one (ap (λ (z : RunData). z.flip_flops) b ∙ sym (ap (λ (z : RunData). z.flip_flops) a) ∙ r.flip_flops);
      blocks = rw add-one (ap (λ (z : RunData). z.bs) b ∙ sym (ap (λ (z : RunData). z.bs) a) ∙ r.blocks);
      results = rw (add-one, g, s.outputs) (ap (λ (z : RunData). sets (set l' i (scan_of d x ws fs' bs').s.outputs) (suc i) z.os) b ∙ sym (ap (λ (z : RunData). sets l' i z.os) a) ∙ r.results);
    }

pub run_end : {d : ℕ} {ws xs fs : List ℕ} {bs : List Block} {l : List ℕ} {i : ℕ} {l' fs' : List ℕ} {bs' : List Block} → RanOn d ws xs fs bs l i l' fs' bs' → length xs ≤ i → RowRun d ws xs fs bs l fs' bs' l'
unfolding run_of
run_end {d} {ws} {xs} {i = i} {l' = l'} {fs' = fs'} {bs' = bs'} r h =
    let c : drop i xs ≡ [] = drop_of_length-le xs {i = i} h in
    let a : run_of d ws fs' bs' (drop i xs) ≡ record { flip_flops = fs'; bs = bs'; os = [] } = rw c in
    record {
      flip_flops = sym (ap (λ (z : RunData). z.flip_flops) a) ∙ r.flip_flops;
      blocks = sym (ap (λ (z : RunData). z.bs) a) ∙ r.blocks;
      results = sym (ap (λ (z : RunData). sets l' i z.os) a) ∙ r.results;
    }

-- ---- the word of the Qs

zeros : (n : ℕ) → word_of (replicate n false) ≡ 0
unfolding word_of
zeros zero = refl
zeros (suc n) = rw (zeros n)

set_behind : (es : List Bool) (c v : Bool) (cs : List Bool) → set (es ++ c ∷ cs) (length es) v ≡ es ++ v ∷ cs
set_behind [] c v cs = refl
set_behind (a ∷ es) c v cs = ap (λ (l : List Bool). a ∷ l) (set_behind es c v cs)

one_behind : (es : List Bool) (v : Bool) (cs : List Bool) → es ++ v ∷ cs ≡ (es ++ (v ∷ [])) ++ cs
one_behind es v cs = sym (append_assoc es (v ∷ []) cs)

q_from : (es : List Bool) (bs : List Block) → length es + length bs ≤ 64 → q_word (length es) bs (word_of (es ++ replicate (length bs) false)) ≡ word_of (es ++ map (λ b. b.q) bs)
unfolding q_word
q_from es [] h = refl
q_from es (b ∷ bs) h =
    let n = length-append es (false ∷ replicate (length bs) false) in
    let z = length-replicate (length bs) false in
    let l = length-append es (b.q ∷ []) in
    let e : with_bit (word_of (es ++ false ∷ replicate (length bs) false)) (length es) b.q ≡ word_of ((es ++ (b.q ∷ [])) ++ replicate (length bs) false)
    = word_set (es ++ false ∷ replicate (length bs) false) (length es) b.q (omega (arith, n, z)) (omega (arith, n, z)) ∙ ap word_of (set_behind es false b.q (replicate (length bs) false) ∙ one_behind es b.q (replicate (length bs) false)) in
    let k : suc (length es) ≡ length (es ++ (b.q ∷ [])) = omega (arith, l) in
    rw (e, k) (q_from (es ++ (b.q ∷ [])) bs (omega (arith, l)) ∙ ap word_of (sym (one_behind es b.q (map (λ b. b.q) bs))))

pub q_same : (bs : List Block) → length bs ≤ 64 → q_word 0 bs 0 ≡ qs_of bs
unfolding qs_of
q_same bs h = ap (q_word 0 bs) (sym (zeros (length bs))) ∙ q_from [] bs (omega arith)

-- ---- for a program that fits

scan_of_lem : (d x : ℕ) (ws fs : List ℕ) (bs : List Block) → length bs ≤ 64 → scan_of d x ws fs bs ≡ whole_from d x ws (controller_of fs bs)
unfolding scan_of whole_from
scan_of_lem d x ws fs bs h = rw (q_same bs h)

pub row_scan_right : (d x : ℕ) (p : Program) (ws fs : List ℕ) (bs : List Block) → Fitting p ws → length bs ≤ 64
    → (controller_of (scan_of d x ws fs bs).flip_flops (scan_of d x ws fs bs).bs ≡ scanned d x (instructions p) (controller_of fs bs)) × ((scan_of d x ws fs bs).s.outputs ≡ output_word d x (instructions p) (controller_of fs bs))
unfolding after_scan output_after
row_scan_right d x p ws fs bs f h = rw (scan_of_lem d x ws fs bs h) (scan_right d x p ws (controller_of fs bs) f h)

-- a scan over a row is the scan of the controller that holds it
pub row_one_scan : {d x : ℕ} {ws fs : List ℕ} {bs : List Block} {fs' : List ℕ} {bs' : List Block} {o : ℕ} → length bs ≤ 64
    → RowScan d x ws fs bs fs' bs' o → OneScan d x ws (controller_of fs bs) (controller_of fs' bs') o
unfolding after_scan output_after
row_one_scan {d} {x} {ws} {fs} {bs} {fs'} {bs'} {o} h s =
    let w = scan_of_lem d x ws fs bs h in
    let e : controller_of fs' bs' ≡ after_scan d x ws (controller_of fs bs) = rw (s.flip_flops, s.blocks, w) in
    let g : o ≡ output_after d x ws (controller_of fs bs) = s.outputs ∙ ap (λ (z : ScanPoint). z.s.outputs) w in
    record { controller = e; word = g; right = λ p f. (let r = scan_right d x p ws (controller_of fs bs) f h in (e ∙ r.0, g ∙ r.1)) }

few_after : (d x : ℕ) (p : Program) (ws fs : List ℕ) (bs : List Block) → Fitting p ws → length bs ≤ 64 → length (scan_of d x ws fs bs).bs ≤ 64
unfolding after_scan
few_after d x p ws fs bs f h = rw (scan_of_lem d x ws fs bs h) (after_length d x p ws (controller_of fs bs) f h)

pub row_run_right : (d : ℕ) (p : Program) (ws fs : List ℕ) (bs : List Block) (xs : List ℕ) → Fitting p ws → length bs ≤ 64
    → (controller_of (run_of d ws fs bs xs).flip_flops (run_of d ws fs bs xs).bs ≡ scanned_all d (instructions p) (controller_of fs bs) xs) × ((run_of d ws fs bs xs).os ≡ output_trace d (instructions p) (controller_of fs bs) xs)
unfolding run_of scanned_all output_trace
row_run_right d p ws fs bs [] f h = (refl, refl)
row_run_right d p ws fs bs (x ∷ xs) f h =
    let z = scan_of d x ws fs bs in
    let r = row_scan_right d x p ws fs bs f h in
    let i = row_run_right d p ws z.flip_flops z.bs xs f (few_after d x p ws fs bs f h) in (
      i.0 ∙ ap (λ (k : Controller). scanned_all d (instructions p) k xs) r.0,
      rw r.1 (ap (λ (l : List ℕ). output_word d x (instructions p) (controller_of fs bs) ∷ l) (i.1 ∙ ap (λ (k : Controller). output_trace d (instructions p) k xs) r.0)),
    )
