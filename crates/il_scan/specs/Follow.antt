-- The scan with one value deferred does what the instructions of a program that fits do.
use Rattle.std.specs.Prelude.{◌≡◌, Bool, true, false, ◌&&◌, ◌||◌, cond, length, get_or, set, leb, Some}
use Rattle.std.proofs.Math.Path.{refl, sym}
use Rattle.std.proofs.Common.{ap, ◌∙◌, le_refl, true≢false}
use Rattle.std.proofs.Math.Logic.{inl, inr}
use Prim.Native.Nat.{ℕ, zero, suc, ◌-◌, ◌≤◌, ◌<◌, min}
use native.Mathlib.Omega.{arith}
use Rattle.std.proofs.Math.Decide.{dec_le}
use Rattle.std.proofs.Math.Bool.{not}
use Rattle.std.proofs.lemmas.Bool.{false≢true}
use mathlib.Core.List.{List, [], ◌∷◌, ◌++◌, map, flat_map, head_d}
use Rattle.std.proofs.Math.ListN.{length-set, get_or-map}
use Rattle.std.proofs.lemmas.List.{length-map}
use Rattle.std.proofs.Math.Seq.{set_out}
use borrow.Author.Tests.{lt-ltb, le-ltb}
use Rattle.meaning.proofs.Laws.Rows.{which, and_l, and_r, and_both}
use Rattle.meaning.specs.Tables.{most_timers}
use Rattle.meaning.specs.Literals.{input_on}
use Rattle.meaning.specs.Machine.{word_of}
use Rattle.meaning.specs.Programs.{Test, Chain, Part, also, bracket, Body, Rung, TimerRung, Program, load_of, and_of, chain_of, part_of, body_of, rung_of, timer_rung_of, timer_rungs_from, instructions, all, flip_flop_fits, output_fits, body_fits, store_fits, rung_fits, timer_rung_fits, program_fits}
use Rattle.meaning.specs.Scan.{MidScan, blank, block_at, block_changed, ton, with_in, with_pt, flip_flop_on, value_of, with_flip_flops, with_block, with_outputs, stored_in, block_called, with_result, executed, executed_all}
use Rattle.meaning.specs.declared.Block.{Block}
use Rattle.meaning.specs.declared.Operand.{Operand}
use Rattle.meaning.specs.declared.Operand.TheVariants.{Mx, Ix, Qx, TimerQ, TimerIn, TimerPt, Timer, False, True}
use Rattle.meaning.specs.declared.Operator.{Operator}
use Rattle.meaning.specs.declared.Operator.TheVariants.{Ld, Ldn, And, Andn, Or, Close, St, S, R, Cal, LdTime}
use Rattle.meaning.proofs.Laws.Timers.{changed_twice}
use Rattle.meaning.proofs.Laws.Execute.{executed_append}
use Rattle.il_instruction.specs.Effect as run
use Rattle.il_values.specs.Value.{bit_on, with_bit, value_in, qs_of}
use Rattle.il_instruction.specs.Effect.{stored_to, evaluated, running, flip_flops_after}
use Rattle.il_stores.specs.Acted.{flip_flop_put, acted}
use Rattle.il_called.specs.Due.{block_of, called_by, due}
use Rattle.il_block.specs.Called.{called_with}
use Rattle.il_scan.specs.Run.{ScanPoint, calling, one_word}
use Rattle.il_values.specs.Bits.{word_bit, word_set}

-- the scan by instructions
unfoldable pub ran_all : ℕ → ℕ → List Operator → ScanPoint → ScanPoint
ran_all d x [] w = w
ran_all d x (i ∷ is) w = ran_all d x is (one_word d x (Some i) w)

-- w stands for v, with a deferred by brackets
pub record StandsMidScan (a : List Bool) (w : ScanPoint) (v : MidScan) : Type 0 where
  pub result : w.s.result ≡ v.result
  pub deferred : v.deferred ≡ a
  pub kept : head_d a w.s.deferred ≡ w.s.deferred
  pub time : w.s.time ≡ v.time
  pub flip_flops : v.controller.flip_flops ≡ w.flip_flops
  pub blocks : v.controller.blocks ≡ w.bs
  pub few : length w.bs ≤ 64
  pub qs : w.s.qs ≡ qs_of w.bs
  pub outputs : w.s.outputs ≡ word_of v.outputs
  pub size : length v.outputs ≡ 64

-- ---- what a test reads

q_same : (bs : List Block) (n : ℕ) → input_on (qs_of bs) n ≡ (block_at bs n).q
unfolding input_on qs_of bit_on block_at
q_same bs n = word_bit (map (λ b. b.q) bs) (n - 1) ∙ get_or-map (λ (b : Block). b.q) bs (n - 1) blank

value_same : (x : ℕ) (o : Operand) {a : List Bool} {w : ScanPoint} {v : MidScan} → StandsMidScan a w v → value_in x w.s.qs w.flip_flops o ≡ value_of x v.controller o
unfolding value_in value_of
value_same x (Mx n) h = ap (λ (l : List ℕ). flip_flop_on l n) (sym h.flip_flops)
value_same x (Ix n) h = refl
value_same x (Qx n) h = refl
value_same x (TimerQ n) {w = w} h = rw (h.qs, h.blocks) (q_same w.bs n)
value_same x (TimerIn n) h = refl
value_same x (TimerPt n) h = refl
value_same x (Timer n) h = refl
value_same x False h = refl
value_same x True h = refl

-- ---- words and lists

output_same : (os : List Bool) (k : ℕ) (r : Bool) → length os ≡ 64 → with_bit (word_of os) k r ≡ word_of (set os k r)
unfolding with_bit
output_same os k r e = elim (dec_le 64 k) [
  | yes h ↦ rw (set_out os k r (omega arith), le-ltb k 64 h)
  | no h ↦ word_set os k r (omega arith) (omega arith)
]

map_set : {A B : Type 0} (f : A → B) (l : List A) (i : ℕ) (y : A) → map f (set l i y) ≡ set (map f l) i (f y)
map_set f [] i y = refl
map_set f (a ∷ l) zero y = refl
map_set f (a ∷ l) (suc i) y = ap (λ m. f a ∷ m) (map_set f l i y)

qs_set : (bs : List Block) (k : ℕ) (b : Block) → k < length bs → length bs ≤ 64 → with_bit (qs_of bs) k b.q ≡ qs_of (set bs k b)
unfolding qs_of
qs_set bs k b h g =
    let e : length (map (λ (c : Block). c.q) bs) ≡ length bs = length-map bs (λ (c : Block). c.q) in
    word_set (map (λ (c : Block). c.q) bs) k b.q (omega arith) (omega arith) ∙ ap word_of (sym (map_set (λ (c : Block). c.q) bs k b))

-- IN, PT and CAL of a block, one after the other
changed_thrice : (d : ℕ) (bs : List Block) (n : ℕ) (r : Bool) (t : ℕ)
    → block_changed (block_changed (block_changed bs n (with_in r)) n (with_pt t)) n (ton d) ≡ set bs (n - 1) (called_with d r t (get_or bs (n - 1) blank))
unfolding called_with block_changed block_at
changed_thrice d bs n r t = rw (changed_twice bs n (with_in r) (with_pt t), changed_twice bs n (λ b. with_pt t (with_in r b)) (ton d))

-- ---- one instruction

module _ (d x : ℕ) where
  -- an instruction that is no CAL
  plain : (i : Operator) (w : ScanPoint) → due (length w.bs) (Some i) ≡ length w.bs
      → one_word d x (Some i) w ≡ record { s = running x w.flip_flops (Some i) w.s; flip_flops = flip_flops_after (Some i) w.s.result w.flip_flops; bs = w.bs }
  unfolding one_word
  plain i w e = rw (e, le-ltb (length w.bs) (length w.bs) (le_refl (length w.bs)))

  -- the instructions is lead from states with a deferred to states with b deferred
  abbrev pub Follows : List Bool → List Operator → List Bool → Type 0
  Follows a is b = (w : ScanPoint) (v : MidScan) → StandsMidScan a w v → StandsMidScan b (ran_all d x is w) (executed_all d x is v)

  ran_append : (is js : List Operator) (w : ScanPoint) → ran_all d x (is ++ js) w ≡ ran_all d x js (ran_all d x is w)
  unfolding ran_all
  ran_append [] js w = refl
  ran_append (i ∷ is) js w = ran_append is js (one_word d x (Some i) w)

  nothing : {a : List Bool} → Follows a [] a
  unfolding ran_all executed_all
  nothing w v h = h

  then : {a b c : List Bool} (is js : List Operator) → Follows a is b → Follows b js c → Follows a (is ++ js) c
  then is js f g w v h = rw (ran_append is js w, executed_append d x is js v) (g _ _ (f w v h))

  one : {a b : List Bool} (i : Operator) → ((w : ScanPoint) (v : MidScan) → StandsMidScan a w v → StandsMidScan b (one_word d x (Some i) w) (executed d x i v)) → Follows a (i ∷ []) b
  unfolding ran_all executed_all
  one i f w v h = f w v h

  with_result_lem : {a : List Bool} (w : ScanPoint) (v : MidScan) (r u : Bool) → r ≡ u → StandsMidScan a w v → StandsMidScan a (record { s = run.loaded r w.s; flip_flops = w.flip_flops; bs = w.bs }) (with_result u v)
  unfolding with_result
  with_result_lem w v r u e h = record { result = e; deferred = h.deferred; kept = h.kept; time = h.time; flip_flops = h.flip_flops; blocks = h.blocks; few = h.few; qs = h.qs; outputs = h.outputs; size = h.size }

  ld : {a : List Bool} (o : Operand) → Follows a (Ld o ∷ []) a
  unfolding executed due called_by running evaluated flip_flops_after acted
  ld o = one (Ld o) λ w v h. rw (plain (Ld o) w refl) (with_result_lem w v _ _ (value_same x o h) h)

  ldn : {a : List Bool} (o : Operand) → Follows a (Ldn o ∷ []) a
  unfolding executed due called_by running evaluated flip_flops_after acted
  ldn o = one (Ldn o) λ w v h. rw (plain (Ldn o) w refl) (with_result_lem w v _ _ (ap not (value_same x o h)) h)

  and : {a : List Bool} (o : Operand) → Follows a (And o ∷ []) a
  unfolding executed due called_by running evaluated flip_flops_after acted
  and o = one (And o) λ w v h. rw (plain (And o) w refl) (with_result_lem w v _ _ (rw (h.result, value_same x o h)) h)

  andn : {a : List Bool} (o : Operand) → Follows a (Andn o ∷ []) a
  unfolding executed due called_by running evaluated flip_flops_after acted
  andn o = one (Andn o) λ w v h. rw (plain (Andn o) w refl) (with_result_lem w v _ _ (rw (h.result, value_same x o h)) h)

  or : (w : ScanPoint) (v : MidScan) → StandsMidScan [] w v → StandsMidScan (v.result ∷ []) (one_word d x (Some Or) w) (executed d x Or v)
  unfolding executed due called_by running evaluated flip_flops_after acted head_d
  or w v h = rw (plain Or w refl) (record { result = h.result; deferred = rw h.deferred; kept = sym h.result; time = h.time; flip_flops = h.flip_flops; blocks = h.blocks; few = h.few; qs = h.qs; outputs = h.outputs; size = h.size })

  behind_or : (is : List Operator) → ((r : Bool) → Follows (r ∷ []) is []) → Follows [] (Or ∷ is) []
  unfolding ran_all executed_all
  behind_or is f w v h = f v.result _ _ (or w v h)

  close : (r : Bool) → Follows (r ∷ []) (Close ∷ []) []
  unfolding executed due called_by running evaluated flip_flops_after acted head_d
  close r = one Close λ w v h. rw (plain Close w refl) (record { result = rw (h.deferred, h.kept, h.result); deferred = rw h.deferred; kept = refl; time = h.time; flip_flops = h.flip_flops; blocks = h.blocks; few = h.few; qs = h.qs; outputs = h.outputs; size = h.size })

  -- ---- bodies

  load : {a : List Bool} (t : Test) → Follows a (load_of t ∷ []) a
  unfolding load_of
  load t = elim (which t.wanted) [ inl e ↦ rw e (ld t.operand) | inr e ↦ rw e (ldn t.operand) ]

  further : {a : List Bool} (t : Test) → Follows a (and_of t ∷ []) a
  unfolding and_of
  further t = elim (which t.wanted) [ inl e ↦ rw e (and t.operand) | inr e ↦ rw e (andn t.operand) ]

  furthers : {a : List Bool} (ts : List Test) → Follows a (map and_of ts) a
  furthers [] = nothing
  furthers (t ∷ ts) = then (and_of t ∷ []) (map and_of ts) (further t) (furthers ts)

  chain : {a : List Bool} (h : Chain) → Follows a (chain_of h) a
  unfolding chain_of
  chain h = then (load_of h.first ∷ []) (map and_of h.more) (load h.first) (furthers h.more)

  part : (p : Part) → Follows [] (part_of p) []
  unfolding part_of
  part (also t) = further t
  part (bracket h) = behind_or (chain_of h ++ (Close ∷ [])) λ r. then (chain_of h) (Close ∷ []) (chain h) (close r)

  parts : (ps : List Part) → Follows [] (flat_map part_of ps) []
  unfolding flat_map
  parts [] = nothing
  parts (p ∷ ps) = then (part_of p) (flat_map part_of ps) (part p) (parts ps)

  body : (b : Body) → Follows [] (body_of b) []
  unfolding body_of
  body b = then (load_of b.first ∷ []) (flat_map part_of b.parts) (load b.first) (parts b.parts)

  -- ---- stores

  with_flips : {a : List Bool} (w : ScanPoint) (v : MidScan) (fs gs : List ℕ) → fs ≡ gs → StandsMidScan a w v → StandsMidScan a (record { s = w.s; flip_flops = fs; bs = w.bs }) (with_flip_flops gs v)
  unfolding with_flip_flops
  with_flips w v fs gs e h = record { result = h.result; deferred = h.deferred; kept = h.kept; time = h.time; flip_flops = sym e; blocks = h.blocks; few = h.few; qs = h.qs; outputs = h.outputs; size = h.size }

  st_mx : {a : List Bool} (n : ℕ) → Follows a (St (Mx n) ∷ []) a
  unfolding executed stored_in due called_by running evaluated stored_to flip_flops_after acted flip_flop_put
  st_mx n = one (St (Mx n)) λ w v h. rw (plain (St (Mx n)) w refl) (with_flips w v _ _ (rw (h.result, h.flip_flops)) h)

  st_qx : {a : List Bool} (n : ℕ) → Follows a (St (Qx n) ∷ []) a
  unfolding executed stored_in with_outputs due called_by running evaluated stored_to flip_flops_after acted flip_flop_put
  st_qx n = one (St (Qx n)) λ w v h. rw (plain (St (Qx n)) w refl) (record {
    result = h.result;
    deferred = h.deferred;
    kept = h.kept;
    time = h.time;
    flip_flops = h.flip_flops;
    blocks = h.blocks;
    few = h.few;
    qs = h.qs;
    outputs = rw (h.result, h.outputs) (output_same v.outputs (n - 1) v.result h.size);
    size = length-set v.outputs (n - 1) v.result ∙ h.size;
  })

  acts : {a : List Bool} (w : ScanPoint) (v : MidScan) (fs gs : List ℕ) (r u : Bool) → r ≡ u → fs ≡ gs → StandsMidScan a w v
      → StandsMidScan a (record { s = w.s; flip_flops = cond r fs w.flip_flops; bs = w.bs }) (cond u (with_flip_flops gs v) v)
  acts w v fs gs true true e f h = with_flips w v fs gs f h
  acts w v fs gs true false e f h = absurd (true≢false e)
  acts w v fs gs false true e f h = absurd (false≢true e)
  acts w v fs gs false false e f h = h

  s_mx : {a : List Bool} (n : ℕ) → Follows a (S (Mx n) ∷ []) a
  unfolding executed stored_in due called_by running evaluated flip_flops_after acted flip_flop_put
  s_mx n = one (S (Mx n)) λ w v h. rw (plain (S (Mx n)) w refl) (acts w v _ _ w.s.result v.result h.result (rw h.flip_flops) h)

  r_mx : {a : List Bool} (n : ℕ) → Follows a (R (Mx n) ∷ []) a
  unfolding executed stored_in due called_by running evaluated flip_flops_after acted flip_flop_put
  r_mx n = one (R (Mx n)) λ w v h. rw (plain (R (Mx n)) w refl) (acts w v _ _ w.s.result v.result h.result (rw h.flip_flops) h)

  st : {a : List Bool} (o : Operand) → (flip_flop_fits o || output_fits o) ≡ true → Follows a (St o ∷ []) a
  unfolding flip_flop_fits output_fits
  st (Mx n) e = st_mx n
  st (Ix n) e = absurd (false≢true e)
  st (Qx n) e = st_qx n
  st (TimerQ n) e = absurd (false≢true e)
  st (TimerIn n) e = absurd (false≢true e)
  st (TimerPt n) e = absurd (false≢true e)
  st (Timer n) e = absurd (false≢true e)
  st False e = absurd (false≢true e)
  st True e = absurd (false≢true e)

  on_mx : {a : List Bool} (f : Operand → Operator) → ((n : ℕ) → Follows a (f (Mx n) ∷ []) a) → (o : Operand) → flip_flop_fits o ≡ true → Follows a (f o ∷ []) a
  unfolding flip_flop_fits
  on_mx f g (Mx n) e = g n
  on_mx f g (Ix n) e = absurd (false≢true e)
  on_mx f g (Qx n) e = absurd (false≢true e)
  on_mx f g (TimerQ n) e = absurd (false≢true e)
  on_mx f g (TimerIn n) e = absurd (false≢true e)
  on_mx f g (TimerPt n) e = absurd (false≢true e)
  on_mx f g (Timer n) e = absurd (false≢true e)
  on_mx f g False e = absurd (false≢true e)
  on_mx f g True e = absurd (false≢true e)

  store : {a : List Bool} (i : Operator) → store_fits i ≡ true → Follows a (i ∷ []) a
  unfolding store_fits
  store (Ld o) e = absurd (false≢true e)
  store (Ldn o) e = absurd (false≢true e)
  store (And o) e = absurd (false≢true e)
  store (Andn o) e = absurd (false≢true e)
  store Or e = absurd (false≢true e)
  store Close e = absurd (false≢true e)
  store (St o) e = st o e
  store (S o) e = on_mx S s_mx o e
  store (R o) e = on_mx R r_mx o e
  store (Cal o) e = absurd (false≢true e)
  store (LdTime n) e = absurd (false≢true e)

  stores : {a : List Bool} (is : List Operator) → all store_fits is ≡ true → Follows a is a
  unfolding all
  stores [] e = nothing
  stores (i ∷ is) e = then (i ∷ []) is (store i (and_l (store_fits i) (all store_fits is) e)) (stores is (and_r (store_fits i) (all store_fits is) e))

  -- ---- timer rungs

  cal_in : (n : ℕ) (w : ScanPoint) → n - 1 < length w.bs → one_word d x (Some (Cal (Timer n))) w ≡ calling d (n - 1) w
  unfolding one_word due called_by block_of
  cal_in n w h = let e : min (n - 1) (length w.bs) ≡ n - 1 = omega arith in rw (e, lt-ltb (n - 1) (length w.bs) h)

  cal_out : (n : ℕ) (w : ScanPoint) → length w.bs ≤ n - 1 → one_word d x (Some (Cal (Timer n))) w ≡ w
  unfolding due called_by block_of running evaluated flip_flops_after acted
  cal_out n w h = plain (Cal (Timer n)) w (omega arith)

  -- where the three stores before CAL have led
  abbrev given : ℕ → ScanPoint → ScanPoint
  given t w = record { s = run.with_time_as_pt (run.time_loaded t (run.with_on w.s.result w.s)); flip_flops = w.flip_flops; bs = w.bs }

  ran_timer : (n t : ℕ) (w : ScanPoint) → ran_all d x (St (TimerIn n) ∷ LdTime t ∷ St (TimerPt n) ∷ Cal (Timer n) ∷ []) w ≡ one_word d x (Some (Cal (Timer n))) (given t w)
  unfolding ran_all due called_by running evaluated stored_to flip_flops_after acted flip_flop_put
  ran_timer n t w = rw (plain (St (TimerIn n)) w refl, plain (LdTime t) _ refl, plain (St (TimerPt n)) _ refl)

  timer_in : (n t : ℕ) (w : ScanPoint) (v : MidScan) → StandsMidScan [] w v → n - 1 < length w.bs
      → StandsMidScan [] (calling d (n - 1) (given t w)) (executed_all d x (St (TimerIn n) ∷ LdTime t ∷ St (TimerPt n) ∷ Cal (Timer n) ∷ []) v)
  unfolding executed_all executed stored_in block_called with_block calling
  timer_in n t w v h g =
      let b = called_with d w.s.result t (get_or w.bs (n - 1) blank) in
      record {
        result = h.result;
        deferred = h.deferred;
        kept = h.kept;
        time = refl;
        flip_flops = h.flip_flops;
        blocks = changed_thrice d v.controller.blocks n v.result t ∙ rw (h.blocks, h.result);
        few = rw (length-set w.bs (n - 1) b) h.few;
        qs = rw h.qs (qs_set w.bs (n - 1) b g h.few);
        outputs = h.outputs;
        size = h.size;
      }

  timer : (n t : ℕ) → Follows [] (St (TimerIn n) ∷ LdTime t ∷ St (TimerPt n) ∷ Cal (Timer n) ∷ []) []
  unfolding executed_all executed stored_in block_called with_block
  timer n t w v h = rw (ran_timer n t w) (elim (dec_le (length w.bs) (n - 1)) [
    | yes g ↦ rw (cal_out n (given t w) g) (record {
      result = h.result;
      deferred = h.deferred;
      kept = h.kept;
      time = refl;
      flip_flops = h.flip_flops;
      blocks = changed_thrice d v.controller.blocks n v.result t ∙ rw h.blocks (set_out w.bs (n - 1) (called_with d v.result t (get_or w.bs (n - 1) blank)) g);
      few = h.few;
      qs = h.qs;
      outputs = h.outputs;
      size = h.size;
    })
    | no g ↦ rw (cal_in n (given t w) (omega arith)) (timer_in n t w v h (omega arith))
  ])

  -- ---- programs

  rung : (k : ℕ) (r : Rung) → rung_fits k r ≡ true → Follows [] (rung_of r) []
  unfolding rung_of rung_fits all
  rung k r e = then (body_of r.body) (r.store ∷ r.stores) (body r.body)
      (stores (r.store ∷ r.stores) (and_both _ _ (and_r (body_fits k r.body) _ (and_l _ (all store_fits r.stores) e)) (and_r (body_fits k r.body && store_fits r.store) _ e)))

  rungs : (k : ℕ) (rs : List Rung) → all (rung_fits k) rs ≡ true → Follows [] (flat_map rung_of rs) []
  unfolding all flat_map
  rungs k [] e = nothing
  rungs k (r ∷ rs) e = then (rung_of r) (flat_map rung_of rs) (rung k r (and_l (rung_fits k r) (all (rung_fits k) rs) e)) (rungs k rs (and_r (rung_fits k r) (all (rung_fits k) rs) e))

  timers : (n : ℕ) (rs : List TimerRung) → Follows [] (timer_rungs_from n rs) []
  unfolding timer_rungs_from timer_rung_of
  timers n [] = nothing
  timers n (r ∷ rs) = then (timer_rung_of n r) (timer_rungs_from (suc n) rs) (then (body_of r.body) _ (body r.body) (timer n r.time)) (timers (suc n) rs)

  pub program : (p : Program) → program_fits p ≡ true → Follows [] (instructions p) []
  unfolding instructions program_fits
  program p e = then (timer_rungs_from 1 p.timers) (flat_map rung_of p.rungs) (timers 1 p.timers)
      (rungs (length p.timers) p.rungs (and_r (leb (length p.timers) most_timers && all (timer_rung_fits (length p.timers)) p.timers) _ e))
