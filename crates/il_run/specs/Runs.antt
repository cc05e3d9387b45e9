-- What the calls that run a program answer, and that each has no second answer.
use Rattle.meaning.specs.Refusals.{Answer}
use Rattle.std.specs.Prelude.{◌≡◌, ℕ, true, false, List, map, length, Ok, Err}
use Rattle.std.proofs.Common.{sym, ap, ap₂, ◌∙◌, arith}
use Rattle.meaning.proofs.Laws.Rows.{not_both}
use Rattle.meaning.specs.Tables.{Tables, most_scan_step}
use Rattle.meaning.specs.Rules.{Rules}
use Rattle.meaning.specs.Machine.{Seen}
use Rattle.meaning.specs.History.{first_leaf, history_reading}
use Rattle.meaning.specs.Written.{program}
use Rattle.meaning.specs.Stands.{coded_leaf}
use Rattle.meaning.proofs.Laws.Programs.{program_fits_lem}
use Rattle.meaning.specs.Demands.{last_leaf}
use Rattle.meaning.specs.Literals.{between}
use Rattle.meaning.specs.Programs.{Program, instructions, program_fits}
use Rattle.meaning.specs.Scan.{Controller, ValidController, cleared, scanned, output_word, scanned_all, output_trace}
use Rattle.meaning.specs.declared.Refusal.{Refusal}
use Rattle.meaning.specs.declared.Refusal.TheVariants.{Size, Text, State, Scans}
use Rattle.format.specs.Words.{words, AcceptedWords}
use Rattle.format.specs.Places.{WordPlace}
use Rattle.format.proofs.Laws.Words.{words_same, place_same}
use Rattle.format.proofs.Laws.Bytes.{words_run}

-- the refusals of a run of the words ws with the step d, over the controller k, with n input words and m results: "Checks 1 to
-- 11 come first wherever tables or a scan step are given, then 13 where text or words are given, then 14, 15"
pub data Refuses (d : ℕ) (ws : List ℕ) (k : Controller) (n m : ℕ) (q : Refusal) : Type 0 where
  step : between 1 most_scan_step d ≡ false → q ≡ Size → Refuses d ws k n m q
  text : between 1 most_scan_step d ≡ true → (i : ℕ) → WordPlace ws i → q ≡ Text i → Refuses d ws k n m q
  state : between 1 most_scan_step d ≡ true → (p : Program) → program_fits p ≡ true → words p ≡ ws → (ValidController p k → ⊥) → q ≡ State → Refuses d ws k n m q
  scans : between 1 most_scan_step d ≡ true → (p : Program) → program_fits p ≡ true → words p ≡ ws → ValidController p k → (m ≡ n → ⊥) → q ≡ Scans → Refuses d ws k n m q

-- none of them, for the program p
pub record AcceptsRun (d : ℕ) (ws : List ℕ) (k : Controller) (n m : ℕ) (p : Program) : Type 0 where
  pub step : between 1 most_scan_step d ≡ true
  pub program : program_fits p ≡ true
  pub list : words p ≡ ws
  pub state : ValidController p k
  pub scans : m ≡ n

-- how a run with the input words xs ends, from the controller k and the results l: "A refusal writes nothing."
pub data Ends (d : ℕ) (ws xs : List ℕ) (k : Controller) (l : List ℕ) (r : Answer) (k' : Controller) (l' : List ℕ) : Type 0 where
  ran : (p : Program) → AcceptsRun d ws k (length xs) (length l) p → r ≡ Ok (length xs) → k' ≡ scanned_all d (instructions p) k xs → l' ≡ output_trace d (instructions p) k xs → Ends d ws xs k l r k' l'
  refused : (q : Refusal) → Refuses d ws k (length xs) (length l) q → r ≡ Err q → k' ≡ k → l' ≡ l → Ends d ws xs k l r k' l'

pub record ProgramRan (d : ℕ) (ws xs : List ℕ) (k : Controller) (l : List ℕ) (r : Answer) (k' : Controller) (l' : List ℕ) : Type 0 where
  pub ends : Ends d ws xs k l r k' l'
  -- demand 3, of every chart whose program the words are: from cleared memory the outputs after each scan, and the leaf that the flip-flops show in the end, are what the inputs and the list of earlier leaves call for
  pub reads : (n : ℕ) → r ≡ Ok n → (c : Tables) → Rules c → c.scan_step ≡ d → words (program c) ≡ ws → k ≡ cleared (program c)
      → (l' ≡ map (λ (e : Seen). e.outputs) (history_reading c xs)) × (coded_leaf c k'.flip_flops ≡ last_leaf (first_leaf c) (history_reading c xs))

-- one scan with the input word x
pub data ProgramScanned (d : ℕ) (ws : List ℕ) (x : ℕ) (k : Controller) (r : Answer) (k' : Controller) : Type 0 where
  ran : (p : Program) → AcceptsRun d ws k 1 1 p → r ≡ Ok (output_word d x (instructions p) k) → k' ≡ scanned d x (instructions p) k → ProgramScanned d ws x k r k'
  refused : (q : Refusal) → Refuses d ws k 1 1 q → r ≡ Err q → k' ≡ k → ProgramScanned d ws x k r k'

-- ---- no second answer

module _ {d : ℕ} {ws : List ℕ} {k : Controller} {n m : ℕ} where
  refuses_same : {q s : Refusal} → Refuses d ws k n m q → Refuses d ws k n m s → q ≡ s
  refuses_same (Refuses.step a e) (Refuses.step b f) = e ∙ sym f
  refuses_same (Refuses.step a e) (Refuses.text b i h f) = absurd (not_both a b)
  refuses_same (Refuses.step a e) (Refuses.state b p g h v f) = absurd (not_both a b)
  refuses_same (Refuses.step a e) (Refuses.scans b p g h v z f) = absurd (not_both a b)
  refuses_same (Refuses.text a i h e) (Refuses.step b f) = absurd (not_both b a)
  refuses_same (Refuses.text a i h e) (Refuses.text b j g f) = e ∙ ap Text (place_same AcceptedWords _ ws i j h g) ∙ sym f
  refuses_same (Refuses.text a i h e) (Refuses.state b p g l v f) = absurd (h.refused (p, g, l))
  refuses_same (Refuses.text a i h e) (Refuses.scans b p g l v z f) = absurd (h.refused (p, g, l))
  refuses_same (Refuses.state a p g l v e) (Refuses.step b f) = absurd (not_both b a)
  refuses_same (Refuses.state a p g l v e) (Refuses.text b i h f) = absurd (h.refused (p, g, l))
  refuses_same (Refuses.state a p g l v e) (Refuses.state b s h o w f) = e ∙ sym f
  refuses_same (Refuses.state a p g l v e) (Refuses.scans b s h o w z f) = absurd (v (rw (words_same s p h g (o ∙ sym l)) at w))
  refuses_same (Refuses.scans a p g l v z e) (Refuses.step b f) = absurd (not_both b a)
  refuses_same (Refuses.scans a p g l v z e) (Refuses.text b i h f) = absurd (h.refused (p, g, l))
  refuses_same (Refuses.scans a p g l v z e) (Refuses.state b s h o w f) = absurd (w (rw (words_same p s g h (l ∙ sym o)) at v))
  refuses_same (Refuses.scans a p g l v z e) (Refuses.scans b s h o w y f) = e ∙ sym f

  never : {p : Program} {q : Refusal} → AcceptsRun d ws k n m p → Refuses d ws k n m q → ⊥
  never a (Refuses.step b f) = not_both b a.step
  never a (Refuses.text b i h f) = h.refused (_, a.program, a.list)
  never {p} a (Refuses.state b s g l v f) = v (rw (words_same p s a.program g (a.list ∙ sym l)) at a.state)
  never a (Refuses.scans b s g l v z f) = z a.scans

  same_program : {p s : Program} → AcceptsRun d ws k n m p → AcceptsRun d ws k n m s → p ≡ s
  same_program {p} {s} a b = words_same p s a.program b.program (a.list ∙ sym b.list)

ends_same : {d : ℕ} {ws xs : List ℕ} {k : Controller} {l : List ℕ} {r s : Answer} {j k' : Controller} {m l' : List ℕ} → Ends d ws xs k l r k' l' → Ends d ws xs k l s j m → (r ≡ s) × (k' ≡ j) × (l' ≡ m)
ends_same {d} {ws} {xs} {k} (Ends.ran p a e f g) (Ends.ran s b h i o) = let z = same_program a b in
    (e ∙ sym h, f ∙ ap (λ (t : Program). scanned_all d (instructions t) k xs) z ∙ sym i, g ∙ ap (λ (t : Program). output_trace d (instructions t) k xs) z ∙ sym o)
ends_same (Ends.ran p a e f g) (Ends.refused q b h i o) = absurd (never a b)
ends_same (Ends.refused q a e f g) (Ends.ran p b h i o) = absurd (never b a)
ends_same (Ends.refused q a e f g) (Ends.refused s b h i o) = (e ∙ ap Err (refuses_same a b) ∙ sym h, f ∙ sym i, g ∙ sym o)

pub one_program_run : {d : ℕ} {ws xs : List ℕ} {k : Controller} {l : List ℕ} {r s : Answer} {j k' : Controller} {m l' : List ℕ} → ProgramRan d ws xs k l r k' l' → ProgramRan d ws xs k l s j m → (r ≡ s) × (k' ≡ j) × (l' ≡ m)
one_program_run p q = ends_same p.ends q.ends

-- how a run ends is all that there is to prove
pub run_ends : {d : ℕ} {ws xs : List ℕ} {k : Controller} {l : List ℕ} {r : Answer} {k' : Controller} {l' : List ℕ} → Ends d ws xs k l r k' l' → ProgramRan d ws xs k l r k' l'
run_ends {d} {ws} {xs} {k} {l} {r} {k'} {l'} (Ends.ran p a e f g) = record {
  ends = Ends.ran p a e f g;
  reads = λ n z c R s w m.
      let q : p ≡ program c = words_same p (program c) a.program (program_fits_lem c R) (a.list ∙ sym w) in
      let o : k ≡ cleared p = m ∙ ap cleared (sym q) in
      let t = words_run c R p a.program (a.list ∙ sym w) xs in (
        g ∙ ap₂ (λ (b : ℕ) (j : Controller). output_trace b (instructions p) j xs) (sym s) o ∙ t.0,
        ap (λ (j : Controller). coded_leaf c j.flip_flops) (f ∙ ap₂ (λ (b : ℕ) (j : Controller). scanned_all b (instructions p) j xs) (sym s) o) ∙ t.1,
      );
}
run_ends (Ends.refused q b e f g) = record { ends = Ends.refused q b e f g; reads = λ n z. absurd (let o : ◌≡◌ {A = ℕ} 0 1 = cc in omega arith) }

pub one_program_scan : {d : ℕ} {ws : List ℕ} {x : ℕ} {k : Controller} {r s : Answer} {j k' : Controller} → ProgramScanned d ws x k r k' → ProgramScanned d ws x k s j → (r ≡ s) × (k' ≡ j)
one_program_scan {d} {ws} {x} {k} (ProgramScanned.ran p a e f) (ProgramScanned.ran s b h i) = let z = same_program a b in
    (e ∙ ap (λ (t : Program). Ok (output_word d x (instructions t) k)) z ∙ sym h, f ∙ ap (λ (t : Program). scanned d x (instructions t) k) z ∙ sym i)
one_program_scan (ProgramScanned.ran p a e f) (ProgramScanned.refused q b h i) = absurd (never a b)
one_program_scan (ProgramScanned.refused q a e f) (ProgramScanned.ran p b h i) = absurd (never b a)
one_program_scan (ProgramScanned.refused q a e f) (ProgramScanned.refused s b h i) = (e ∙ ap Err (refuses_same a b) ∙ sym h, f ∙ sym i)
