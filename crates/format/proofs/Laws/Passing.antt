-- The reader accepts what the grammar makes.
use Rattle.std.specs.Prelude.{◌≡◌, ◌⊎◌, ℕ, suc, ◌+◌, ◌≤◌, true, ◌&&◌, length, leb}
use Rattle.std.proofs.Math.Path.{refl}
use Rattle.std.proofs.Common.{ap, ◌∙◌, subst}
use Rattle.std.proofs.Math.Logic.{inl, inr}
use native.Mathlib.Omega.{arith}
use Rattle.std.proofs.lemmas.Bool.{false≢true}
use mathlib.Core.List.{List, [], ◌∷◌, ◌++◌, map, flat_map, append_assoc}
use borrow.Author.Tests.{leb-true, le-leb}
use Rattle.meaning.proofs.Laws.Rows.{and_l, and_r, and_both, or_cases, or_l, or_r}
use Rattle.meaning.specs.Tables.{most_timers, most_preset}
use Rattle.meaning.specs.Literals.{between}
use Rattle.meaning.specs.Programs.{Test, Part, also, bracket, Body, Rung, TimerRung, Program, load_of, and_of, chain_of, part_of, body_of, rung_of, timer_rung_of, timer_rungs_from, instructions, all, testable, constant, load_fits, chain_fits, part_fits, body_fits, store_fits, rung_fits, timer_rung_fits, program_fits}
use Rattle.meaning.specs.declared.Operand.{Operand}
use Rattle.meaning.specs.declared.Operand.TheVariants.{Mx, Ix, Qx, TimerQ, TimerIn, TimerPt, Timer, False, True}
use Rattle.meaning.specs.declared.Operator.{Operator}
use Rattle.meaning.specs.declared.Operator.TheVariants.{Close, St, Cal, LdTime}
use Rattle.format.specs.declared.Phase.{Phase}
use Rattle.format.specs.declared.Phase.TheVariants as P
use Rattle.format.specs.declared.Reading.{Reading}
use Rattle.format.specs.Decode.{operator_fits}
use Rattle.format.proofs.Laws.Decode.{within}
use Rattle.format.specs.Automata.Phases.{begin, to, naming, settled, phase_counted, block, phase_after_all, may_end}
use Rattle.format.proofs.Laws.Phases.{StepsTo, begins, begins_next, begins_inside, adds, adds_inside, opens, closes, stores, stores_next, gives_in, gives_time, gives_pt, calls, moves_step, moves_instruction}

-- from s the reader takes the whole list and may end
pub record AcceptsFrom (s : Reading) (l : List Operator) : Type 0 where
  pub known : all operator_fits l ≡ true
  pub ends : may_end (phase_after_all s l) ≡ true

pub accepts_by : {s r : Reading} {i : Operator} {l : List Operator} → StepsTo s i r → AcceptsFrom r l → AcceptsFrom s (i ∷ l)
unfolding all phase_after_all
accepts_by m a = record { known = and_both _ _ (moves_instruction m) a.known; ends = rw (moves_step m) a.ends }

-- ---- tests with d blocks declared are tests with more

testable_block : (d : ℕ) (o : Operand) → testable d o ≡ true → block o ≤ d
unfolding testable block
testable_block d (Mx n) e = omega arith
testable_block d (Ix n) e = omega arith
testable_block d (Qx n) e = omega arith
testable_block d (TimerQ n) e = (within 1 d n e).1
testable_block d (TimerIn n) e = absurd (false≢true e)
testable_block d (TimerPt n) e = absurd (false≢true e)
testable_block d (Timer n) e = absurd (false≢true e)
testable_block d False e = omega arith
testable_block d True e = omega arith

constant_block : (o : Operand) → constant o ≡ true → block o ≡ 0
unfolding constant block
constant_block (Mx n) e = refl
constant_block (Ix n) e = refl
constant_block (Qx n) e = refl
constant_block (TimerQ n) e = absurd (false≢true e)
constant_block (TimerIn n) e = absurd (false≢true e)
constant_block (TimerPt n) e = absurd (false≢true e)
constant_block (Timer n) e = absurd (false≢true e)
constant_block False e = refl
constant_block True e = refl

-- any number that the block is not beyond will do
pub testable_other : (d e : ℕ) (o : Operand) → testable d o ≡ true → block o ≤ e → testable e o ≡ true
unfolding testable block
testable_other d e (Mx n) f h = f
testable_other d e (Ix n) f h = f
testable_other d e (Qx n) f h = f
testable_other d e (TimerQ n) f h = and_both _ _ (le-leb 1 n (within 1 d n f).0) (le-leb n e h)
testable_other d e (TimerIn n) f h = f
testable_other d e (TimerPt n) f h = f
testable_other d e (Timer n) f h = f
testable_other d e False f h = f
testable_other d e True f h = f

pub load_other : (d e : ℕ) (t : Test) → load_fits d t ≡ true → block t.operand ≤ e → load_fits e t ≡ true
unfolding load_fits
load_other d e t f h = elim (or_cases (testable d t.operand) _ f) [ inl p ↦ or_l _ _ (testable_other d e t.operand p h) | inr p ↦ or_r (testable e t.operand) _ p ]

load_block : (d : ℕ) (t : Test) → load_fits d t ≡ true → block t.operand ≤ d
unfolding load_fits
load_block d t f = elim (or_cases (testable d t.operand) _ f) [ inl p ↦ testable_block d t.operand p | inr p ↦ omega (arith, constant_block t.operand (and_r t.wanted _ p)) ]

-- ---- reading on with d blocks in the end, of which n are complete

pub record Toward (d n : ℕ) (w : Phase) (s : Reading) : Type 0 where
  pub phase : s.phase ≡ w
  pub timers : s.timers ≡ n
  pub named : s.named ≤ d
  pub most : d ≤ s.most

abbrev pub Passes : ℕ → ℕ → Phase → List Operator → Type 0
Passes d n w l = (s : Reading) → Toward d n w s → AcceptsFrom s l

-- where a rung may begin
abbrev pub Free : Phase → Type 0
Free w = (w ≡ P.Between) ⊎ (w ≡ P.Stored)

module _ (d : ℕ) (small : d ≤ most_timers) where
  -- a test that fits, whichever way the reader goes
  tested : {s r : Reading} {i : Operator} {l : List Operator} (n m : ℕ) (v w : Phase) → Toward d n v s → m ≤ d → StepsTo s i r → r ≡ naming m (to w s) → Passes d n w l → AcceptsFrom s (i ∷ l)
  tested {s} n m v w t h k e p = accepts_by k (rw e (p (naming m (to w s)) (record { phase = refl; timers = t.timers; named = (let a = t.named in omega arith); most = t.most })))

  passes_more : (n : ℕ) (ts : List Test) (l : List Operator) → all (λ t. testable d t.operand) ts ≡ true → Passes d n P.Inside l → Passes d n P.Inside (map and_of ts ++ l)
  unfolding all
  passes_more n [] l f p s t = p s t
  passes_more n (x ∷ xs) l f p s t =
      let q = and_l (testable d x.operand) _ f in
      let b = testable_block d x.operand q in
      tested n (block x.operand) P.Inside P.Inside t b (adds_inside x t.phase (testable_other d most_timers x.operand q (omega arith)) (omega (arith, t.most))) refl (passes_more n xs l (and_r (testable d x.operand) _ f) p)

  passes_part : (n : ℕ) (x : Part) (l : List Operator) → part_fits d x ≡ true → Passes d n P.Body l → Passes d n P.Body (part_of x ++ l)
  unfolding part_fits part_of chain_fits chain_of
  passes_part n (also x) l f p s t =
      let b = testable_block d x.operand f in
      tested n (block x.operand) P.Body P.Body t b (adds x t.phase (testable_other d most_timers x.operand f (omega arith)) (omega (arith, t.most))) refl p
  passes_part n (bracket h) l f p s t =
      let q = and_l (load_fits d h.first) _ f in
      let b = load_block d h.first q in
      let shut : Passes d n P.Inside (Close ∷ l) = λ r u. accepts_by (closes u.phase) (p _ (record { phase = refl; timers = u.timers; named = u.named; most = u.most })) in
      let inner : Passes d n P.Opened (load_of h.first ∷ (map and_of h.more ++ (Close ∷ l))) = λ r u. tested n (block h.first.operand) P.Opened P.Inside u b
      (begins_inside h.first u.phase (load_other d most_timers h.first q (omega arith)) (omega (arith, u.most))) refl (passes_more n h.more (Close ∷ l) (and_r (load_fits d h.first) _ f) shut) in
      accepts_by (opens t.phase) (rw append_assoc (inner _ (record { phase = refl; timers = t.timers; named = t.named; most = t.most })))

  passes_parts : (n : ℕ) (xs : List Part) (l : List Operator) → all (part_fits d) xs ≡ true → Passes d n P.Body l → Passes d n P.Body (flat_map part_of xs ++ l)
  unfolding all flat_map
  passes_parts n [] l f p s t = p s t
  passes_parts n (x ∷ xs) l f p s t = rw append_assoc (passes_part n x (flat_map part_of xs ++ l) (and_l (part_fits d x) _ f) (passes_parts n xs l (and_r (part_fits d x) _ f) p) s t)

  pub passes_body : (n : ℕ) (w : Phase) (b : Body) (l : List Operator) → Free w → body_fits d b ≡ true → Passes d n P.Body l → Passes d n w (body_of b ++ l)
  unfolding body_fits body_of
  passes_body n w x l free f p s t =
      let q = and_l (load_fits d x.first) _ f in
      let b = load_block d x.first q in
      let g = load_other d most_timers x.first q (omega arith) in
      let on = passes_parts n x.parts l (and_r (load_fits d x.first) _ f) p in
      elim free [
        | inl e ↦ tested n (block x.first.operand) w P.Body t b (begins x.first (t.phase ∙ e) g (omega (arith, t.most))) refl on
        | inr e ↦ tested n (block x.first.operand) w P.Body t b (begins_next x.first (t.phase ∙ e) g (omega (arith, t.most))) refl on
      ]

  -- ---- the stores of a rung

  settles : {s : Reading} {w : Phase} {l : List Operator} → Toward d d w s → Passes d d P.Stored l → AcceptsFrom (settled s) l
  settles t p = p _ (record { phase = refl; timers = t.timers; named = t.named; most = (let e = t.timers in omega arith) })

  passes_stores : (is l : List Operator) → all store_fits is ≡ true → Passes d d P.Stored l → Passes d d P.Stored (is ++ l)
  unfolding all
  passes_stores [] l f p s t = p s t
  passes_stores (i ∷ is) l f p s t =
      accepts_by (stores_next i t.phase (and_l (store_fits i) _ f) (let e = t.timers in let n = t.named in omega arith)) (settles t (passes_stores is l (and_r (store_fits i) _ f) p))

  pub passes_end : (w : Phase) → Free w → Passes d d w []
  unfolding phase_after_all may_end all
  passes_end w free s t =
      let e = t.timers in
      let n = le-leb s.named s.timers (let n = t.named in omega arith) in
      record { known = refl; ends = elim free [ inl p ↦ rw (t.phase ∙ p, n) | inr p ↦ rw (t.phase ∙ p, n) ] }

  passes_rungs : (w : Phase) (rs : List Rung) → Free w → all (rung_fits d) rs ≡ true → Passes d d w (flat_map rung_of rs)
  unfolding all flat_map rung_fits rung_of
  passes_rungs w [] free f s t = passes_end w free s t
  passes_rungs w (r ∷ rs) free f s t =
      let g = and_l (rung_fits d r) _ f in
      let g₂ = and_l (body_fits d r.body && store_fits r.store) _ g in
      let rest = passes_rungs P.Stored rs (inr refl) (and_r (rung_fits d r) _ f) in
      let more = passes_stores r.stores (flat_map rung_of rs) (and_r (body_fits d r.body && store_fits r.store) _ g) rest in
      rw append_assoc (passes_body d w r.body _ free (and_l (body_fits d r.body) _ g₂)
      (λ r₁ u. accepts_by (stores r.store u.phase (and_r (body_fits d r.body) _ g₂) (let e = u.timers in let n = u.named in omega arith)) (settles u more)) s t)

  -- ---- timer rungs

  module _ (n : ℕ) (room : suc n ≤ d) (l : List Operator) where
    pub passes_call : Passes d (suc n) P.Between l → Passes d n P.GivenPt (Cal (Timer (suc n)) ∷ l)
    passes_call p s t =
        let e = t.timers in
        subst (λ k. AcceptsFrom s (Cal (Timer (suc k)) ∷ l)) e (accepts_by (calls t.phase (omega arith)) (p (phase_counted s) (record { phase = refl; timers = ap suc e; named = t.named; most = t.most })))

    pub passes_pt : Passes d n P.GivenPt l → Passes d n P.GivenTime (St (TimerPt (suc n)) ∷ l)
    passes_pt p s t =
        let e = t.timers in
        subst (λ k. AcceptsFrom s (St (TimerPt (suc k)) ∷ l)) e (accepts_by (gives_pt t.phase (omega arith)) (p (to P.GivenPt s) (record { phase = refl; timers = e; named = t.named; most = t.most })))

    pub passes_time : (time : ℕ) → between 1 most_preset time ≡ true → Passes d n P.GivenTime l → Passes d n P.GivenIn (LdTime time ∷ l)
    passes_time time f p s t = accepts_by (gives_time time t.phase f) (p _ (record { phase = refl; timers = t.timers; named = t.named; most = t.most }))

    pub passes_in : Passes d n P.GivenIn l → Passes d n P.Body (St (TimerIn (suc n)) ∷ l)
    passes_in p s t =
        let e = t.timers in
        let h = t.most in
        subst (λ k. AcceptsFrom s (St (TimerIn (suc k)) ∷ l)) e (accepts_by (gives_in t.phase (omega arith) (omega arith)) (p (to P.GivenIn s) (record { phase = refl; timers = e; named = t.named; most = t.most })))

  -- the lines of block n + 1 after its body
  pub passes_lines : (n time : ℕ) (l : List Operator) → suc n ≤ d → between 1 most_preset time ≡ true → Passes d (suc n) P.Between l
      → Passes d n P.Body (St (TimerIn (suc n)) ∷ LdTime time ∷ St (TimerPt (suc n)) ∷ Cal (Timer (suc n)) ∷ l)
  passes_lines n time l h f p = passes_in n h _ (passes_time n h _ time f (passes_pt n h _ (passes_call n h l p)))

  pub passes_timers : (n : ℕ) (ts : List TimerRung) (rs : List Rung) → n + length ts ≡ d → all (timer_rung_fits d) ts ≡ true → all (rung_fits d) rs ≡ true
      → Passes d n P.Between (timer_rungs_from (suc n) ts ++ flat_map rung_of rs)
  unfolding all timer_rungs_from timer_rung_of timer_rung_fits
  passes_timers n [] rs e f g s t = (let z : n ≡ d = omega arith in passes_rungs P.Between rs (inl refl) g s (rw z at t))
  passes_timers n (r ∷ ts) rs e f g s t =
      let q = and_l (timer_rung_fits d r) _ f in
      let rest = passes_timers (suc n) ts rs (omega arith) (and_r (timer_rung_fits d r) _ f) g in
      rw (append_assoc (timer_rung_of (suc n) r) _ (flat_map rung_of rs), append_assoc (body_of r.body)) (passes_body n P.Between r.body _ (inl refl) (and_l (body_fits d r.body) _ q) (passes_lines n r.time _ (omega arith) (and_r (body_fits d r.body) _ q) rest) s t)

-- what the grammar makes is accepted, where at least a and at most b blocks are asked for
pub program_accepted : (p : Program) (a b : ℕ) → program_fits p ≡ true → a ≤ length p.timers → length p.timers ≤ b → AcceptsFrom (begin a b) (instructions p)
unfolding program_fits instructions begin
program_accepted p a b f h k =
    let d = length p.timers in
    let f₂ = and_l (leb d most_timers && all (timer_rung_fits d) p.timers) _ f in
    passes_timers d (leb-true _ _ (and_l (leb d most_timers) _ f₂)) 0 p.timers p.rungs (omega arith) (and_r (leb d most_timers) _ f₂) (and_r (leb d most_timers && all (timer_rung_fits d) p.timers) _ f)
    _ (record { phase = refl; timers = refl; named = h; most = k })

-- every instruction of a program that fits is one
pub program_instructions : (p : Program) → program_fits p ≡ true → all operator_fits (instructions p) ≡ true
program_instructions p f = (program_accepted p 0 (length p.timers) f (omega arith) (omega arith)).known
