-- The steps of the reader that do not refuse, as a relation with one case for each.
use Rattle.std.specs.Prelude.{◌≡◌, refl, ◌⊎◌, ℕ, suc, ◌≤◌, Bool, true, false, ◌&&◌, ◌||◌, cond, leb, eqb}
use Rattle.std.proofs.Common.{sym, ap, ◌∙◌, inl, inr, arith, leb-true, eqb-true, eq-eqb, le-leb}
use Rattle.std.proofs.lemmas.Bool.{false≢true}
use Rattle.std.proofs.Math.Bool.{or-false}
use Rattle.meaning.proofs.Laws.Rows.{which, and_l, and_r, or_cases, or_l}
use Rattle.meaning.specs.Tables.{most_timers, most_preset}
use Rattle.meaning.specs.Literals.{between}
use Rattle.meaning.specs.Programs.{Test, load_of, and_of, testable, constant, load_fits, flip_flop_fits, output_fits, store_fits}
use Rattle.meaning.specs.declared.Operand.{Operand}
use Rattle.meaning.specs.declared.Operand.TheVariants.{Mx, Ix, Qx, TimerQ, TimerIn, TimerPt, Timer, False, True}
use Rattle.meaning.specs.declared.Operator.{Operator}
use Rattle.meaning.specs.declared.Operator.TheVariants.{Ld, Ldn, And, Andn, Or, Close, St, S, R, Cal, LdTime}
use Rattle.format.specs.declared.Phase.{Phase}
use Rattle.format.specs.declared.Phase.TheVariants.{Between, Body, Opened, Inside, Stored, GivenIn, GivenTime, GivenPt, Refused}
use Rattle.format.specs.declared.Reading.{Reading}
use Rattle.format.specs.Decode.{operator_fits, parameter_fits, block_fits}
use Rattle.format.proofs.Laws.Decode.{within, in_range}
use Rattle.format.specs.Automata.Phases.{phase_number, at, to, naming, settled, phase_counted, phase_if, block, load, also, phase_opened, phase_closed, store, give_in, give_time, give_pt, call, phase_put, phase_step, alive}

-- from one reading to the next by an instruction
pub data StepsTo (s : Reading) : Operator → Reading → Type 0 where
  begins : (t : Test) → s.phase ≡ Between → load_fits most_timers t ≡ true → block t.operand ≤ s.most → StepsTo s (load_of t) (naming (block t.operand) (to Body s))
  begins_next : (t : Test) → s.phase ≡ Stored → load_fits most_timers t ≡ true → block t.operand ≤ s.most → StepsTo s (load_of t) (naming (block t.operand) (to Body s))
  begins_inside : (t : Test) → s.phase ≡ Opened → load_fits most_timers t ≡ true → block t.operand ≤ s.most → StepsTo s (load_of t) (naming (block t.operand) (to Inside s))
  adds : (t : Test) → s.phase ≡ Body → testable most_timers t.operand ≡ true → block t.operand ≤ s.most → StepsTo s (and_of t) (naming (block t.operand) (to Body s))
  adds_inside : (t : Test) → s.phase ≡ Inside → testable most_timers t.operand ≡ true → block t.operand ≤ s.most → StepsTo s (and_of t) (naming (block t.operand) (to Inside s))
  opens : s.phase ≡ Body → StepsTo s Or (to Opened s)
  closes : s.phase ≡ Inside → StepsTo s Close (to Body s)
  stores : (i : Operator) → s.phase ≡ Body → store_fits i ≡ true → s.named ≤ s.timers → StepsTo s i (settled s)
  stores_next : (i : Operator) → s.phase ≡ Stored → store_fits i ≡ true → s.named ≤ s.timers → StepsTo s i (settled s)
  gives_in : s.phase ≡ Body → suc s.timers ≤ s.most → suc s.timers ≤ most_timers → StepsTo s (St (TimerIn (suc s.timers))) (to GivenIn s)
  gives_time : (n : ℕ) → s.phase ≡ GivenIn → between 1 most_preset n ≡ true → StepsTo s (LdTime n) (to GivenTime s)
  gives_pt : s.phase ≡ GivenTime → suc s.timers ≤ most_timers → StepsTo s (St (TimerPt (suc s.timers))) (to GivenPt s)
  calls : s.phase ≡ GivenPt → suc s.timers ≤ most_timers → StepsTo s (Cal (Timer (suc s.timers))) (phase_counted s)

-- ---- phases

phase_of : ℕ → Phase
phase_of n = cond (eqb n 0) Between (cond (eqb n 1) Body (cond (eqb n 2) Opened (cond (eqb n 3) Inside (cond (eqb n 4) Stored (cond (eqb n 5) GivenIn (cond (eqb n 6) GivenTime (cond (eqb n 7) GivenPt Refused)))))))

phase_of_lem : (w : Phase) → phase_of (phase_number w) ≡ w
unfolding phase_of
phase_of_lem Between = refl
phase_of_lem Body = refl
phase_of_lem Opened = refl
phase_of_lem Inside = refl
phase_of_lem Stored = refl
phase_of_lem GivenIn = refl
phase_of_lem GivenTime = refl
phase_of_lem GivenPt = refl
phase_of_lem Refused = refl

pub at_yes : (w : Phase) (s : Reading) → at w s ≡ true → s.phase ≡ w
at_yes w s e = sym (phase_of_lem s.phase) ∙ ap phase_of (eqb-true _ _ e) ∙ phase_of_lem w

moved_alive : (b : Bool) (t s : Reading) → alive (phase_if b t s) ≡ true → b ≡ true
unfolding alive
moved_alive true t s e = refl
moved_alive false t s e = e

either : (v w : Phase) (s : Reading) (a b : ℕ) → ((at v s || at w s) && leb a b) ≡ true → ((s.phase ≡ v) ⊎ (s.phase ≡ w)) × (a ≤ b)
either v w s a b e = (elim (or_cases (at v s) (at w s) (and_l (at v s || at w s) (leb a b) e)) [ inl p ↦ inl (at_yes v s p) | inr p ↦ inr (at_yes w s p) ], leb-true a b (and_r (at v s || at w s) (leb a b) e))

-- the number of the next block
next : (w : Phase) (s : Reading) (n : ℕ) → (at w s && eqb n (suc s.timers)) ≡ true → (s.phase ≡ w) × (n ≡ suc s.timers)
next w s n e = (at_yes w s (and_l (at w s) (eqb n (suc s.timers)) e), eqb-true _ _ (and_r (at w s) (eqb n (suc s.timers)) e))

-- ---- what does not refuse is a move

load_moves : (s : Reading) (t : Test) → load_fits most_timers t ≡ true → alive (load (block t.operand) s) ≡ true → StepsTo s (load_of t) (load (block t.operand) s)
unfolding load
load_moves s t f e = elim (which (at Opened s)) [
  | inl o ↦ (let h = moved_alive (leb (block t.operand) s.most) _ s (rw (load, o) at e) in rw (load, o, h) (begins_inside t (at_yes Opened s o) f (leb-true _ _ h)))
  | inr o ↦ (let h = moved_alive ((at Between s || at Stored s) && leb (block t.operand) s.most) _ s (rw (load, o) at e) in
      let r = either Between Stored s (block t.operand) s.most h in
      rw (load, o, h) (elim r.0 [ inl p ↦ begins t p f r.1 | inr p ↦ begins_next t p f r.1 ]))
]

also_moves : (s : Reading) (t : Test) → testable most_timers t.operand ≡ true → alive (also (block t.operand) s) ≡ true → StepsTo s (and_of t) (also (block t.operand) s)
unfolding also
also_moves s t f e =
    let h = moved_alive ((at Body s || at Inside s) && leb (block t.operand) s.most) _ s e in
    let r = either Body Inside s (block t.operand) s.most h in
    rw (also, h) (elim r.0 [
      | inl p ↦ (let m : StepsTo s (and_of t) (naming (block t.operand) (to Body s)) = adds t p f r.1 in rw (← p) at m)
      | inr p ↦ (let m : StepsTo s (and_of t) (naming (block t.operand) (to Inside s)) = adds_inside t p f r.1 in rw (← p) at m)
    ])

store_moves : (s : Reading) (i : Operator) → store_fits i ≡ true → alive (store s) ≡ true → StepsTo s i (store s)
unfolding store
store_moves s i f e =
    let h = moved_alive ((at Body s || at Stored s) && leb s.named s.timers) _ s e in
    let r = either Body Stored s s.named s.timers h in
    rw (store, h) (elim r.0 [ inl p ↦ stores i p f r.1 | inr p ↦ stores_next i p f r.1 ])

put_moves : (s : Reading) (o : Operand) → operator_fits (St o) ≡ true → alive (phase_put o s) ≡ true → StepsTo s (St o) (phase_put o s)
unfolding phase_put give_in give_pt operator_fits flip_flop_fits output_fits parameter_fits store_fits
put_moves s (Mx n) f e = store_moves s (St (Mx n)) (sym (or-false _) ∙ f) e
put_moves s (Ix n) f e = absurd (false≢true f)
put_moves s (Qx n) f e = store_moves s (St (Qx n)) (sym (or-false _) ∙ f) e
put_moves s (TimerQ n) f e = absurd (false≢true f)
put_moves s (TimerIn n) f e =
    let h = moved_alive (at Body s && eqb n (suc s.timers) && leb n s.most) _ s e in
    let q = next Body s n (and_l (at Body s && eqb n (suc s.timers)) (leb n s.most) h) in
    let l = leb-true n s.most (and_r (at Body s && eqb n (suc s.timers)) (leb n s.most) h) in
    rw (give_in, h, q.1) (gives_in q.0 (omega (arith, q.1)) (omega (arith, q.1, (within 1 most_timers n f).1)))
put_moves s (TimerPt n) f e =
    let h = moved_alive (at GivenTime s && eqb n (suc s.timers)) _ s e in
    let q = next GivenTime s n h in
    rw (give_pt, h, q.1) (gives_pt q.0 (omega (arith, q.1, (within 1 most_timers n f).1)))
put_moves s (Timer n) f e = absurd (false≢true f)
put_moves s False f e = absurd (false≢true f)
put_moves s True f e = absurd (false≢true f)

call_moves : (s : Reading) (o : Operand) → block_fits o ≡ true → alive (call (block o) s) ≡ true → StepsTo s (Cal o) (call (block o) s)
unfolding call block block_fits
call_moves s (Mx n) f e = absurd (false≢true f)
call_moves s (Ix n) f e = absurd (false≢true f)
call_moves s (Qx n) f e = absurd (false≢true f)
call_moves s (TimerQ n) f e = absurd (false≢true f)
call_moves s (TimerIn n) f e = absurd (false≢true f)
call_moves s (TimerPt n) f e = absurd (false≢true f)
call_moves s (Timer n) f e =
    let h = moved_alive (at GivenPt s && eqb n (suc s.timers)) _ s e in
    let q = next GivenPt s n h in
    rw (call, h, q.1) (calls q.0 (omega (arith, q.1, (within 1 most_timers n f).1)))
call_moves s False f e = absurd (false≢true f)
call_moves s True f e = absurd (false≢true f)

-- what does not refuse is a move
pub step_moves : (s : Reading) (i : Operator) → operator_fits i ≡ true → alive (phase_step s i) ≡ true → StepsTo s i (phase_step s i)
unfolding phase_step operator_fits load_fits load_of and_of phase_opened phase_closed give_time call store_fits block block_fits
step_moves s (Ld o) f e = load_moves s (record { wanted = true; operand = o }) f e
step_moves s (Ldn o) f e = load_moves s (record { wanted = false; operand = o }) (or_l (testable most_timers o) false f) e
step_moves s (And o) f e = also_moves s (record { wanted = true; operand = o }) f e
step_moves s (Andn o) f e = also_moves s (record { wanted = false; operand = o }) f e
step_moves s Or f e = let h = moved_alive (at Body s) _ s e in rw (phase_opened, h) (opens (at_yes Body s h))
step_moves s Close f e = let h = moved_alive (at Inside s) _ s e in rw (phase_closed, h) (closes (at_yes Inside s h))
step_moves s (St o) f e = put_moves s o f e
step_moves s (S o) f e = store_moves s (S o) f e
step_moves s (R o) f e = store_moves s (R o) f e
step_moves s (Cal o) f e = call_moves s o f e
step_moves s (LdTime n) f e = let h = moved_alive (at GivenIn s) _ s e in rw (give_time, h) (gives_time n (at_yes GivenIn s h) f)

-- ---- a move is a step, and by an instruction

step_load : (s : Reading) (t : Test) → phase_step s (load_of t) ≡ load (block t.operand) s
unfolding phase_step load_of
step_load s t = go t.wanted
  where
    go : (b : Bool) → phase_step s (cond b (Ld t.operand) (Ldn t.operand)) ≡ load (block t.operand) s
    go true = refl
    go false = refl

step_also : (s : Reading) (t : Test) → phase_step s (and_of t) ≡ also (block t.operand) s
unfolding phase_step and_of
step_also s t = go t.wanted
  where
    go : (b : Bool) → phase_step s (cond b (And t.operand) (Andn t.operand)) ≡ also (block t.operand) s
    go true = refl
    go false = refl

step_put : (s : Reading) (o : Operand) → store_fits (St o) ≡ true → phase_put o s ≡ store s
unfolding phase_put store_fits flip_flop_fits output_fits
step_put s (Mx n) f = refl
step_put s (Ix n) f = refl
step_put s (Qx n) f = refl
step_put s (TimerQ n) f = refl
step_put s (TimerIn n) f = absurd (false≢true f)
step_put s (TimerPt n) f = absurd (false≢true f)
step_put s (Timer n) f = refl
step_put s False f = refl
step_put s True f = refl

step_store : (s : Reading) (i : Operator) → store_fits i ≡ true → phase_step s i ≡ store s
unfolding phase_step store_fits
step_store s (Ld o) f = absurd (false≢true f)
step_store s (Ldn o) f = absurd (false≢true f)
step_store s (And o) f = absurd (false≢true f)
step_store s (Andn o) f = absurd (false≢true f)
step_store s Or f = absurd (false≢true f)
step_store s Close f = absurd (false≢true f)
step_store s (St o) f = step_put s o f
step_store s (S o) f = refl
step_store s (R o) f = refl
step_store s (Cal o) f = absurd (false≢true f)
step_store s (LdTime n) f = absurd (false≢true f)

pub moves_step : {s r : Reading} {i : Operator} → StepsTo s i r → phase_step s i ≡ r
unfolding phase_step load also phase_opened phase_closed store give_in give_time give_pt call phase_put block
moves_step {s} (begins t e f h) = step_load s t ∙ rw (load, e, le-leb _ _ h)
moves_step {s} (begins_next t e f h) = step_load s t ∙ rw (load, e, le-leb _ _ h)
moves_step {s} (begins_inside t e f h) = step_load s t ∙ rw (load, e, le-leb _ _ h)
moves_step {s} (adds t e f h) = step_also s t ∙ rw (also, e, le-leb _ _ h)
moves_step {s} (adds_inside t e f h) = step_also s t ∙ rw (also, e, le-leb _ _ h)
moves_step {s} (opens e) = rw (phase_opened, e)
moves_step {s} (closes e) = rw (phase_closed, e)
moves_step {s} (stores i e f h) = step_store s i f ∙ rw (store, e, le-leb _ _ h)
moves_step {s} (stores_next i e f h) = step_store s i f ∙ rw (store, e, le-leb _ _ h)
moves_step {s} (gives_in e h k) = rw (give_in, e, eq-eqb (suc s.timers) _ refl, le-leb _ _ h)
moves_step {s} (gives_time n e f) = rw (give_time, e)
moves_step {s} (gives_pt e h) = rw (give_pt, e, eq-eqb (suc s.timers) _ refl)
moves_step {s} (calls e h) = rw (call, e, eq-eqb (suc s.timers) _ refl)

load_instruction : (b : Bool) (o : Operand) → (testable most_timers o || (b && constant o)) ≡ true → operator_fits (cond b (Ld o) (Ldn o)) ≡ true
unfolding operator_fits
load_instruction true o f = f
load_instruction false o f = rw or-false at f

also_instruction : (b : Bool) (o : Operand) → testable most_timers o ≡ true → operator_fits (cond b (And o) (Andn o)) ≡ true
unfolding operator_fits
also_instruction true o f = f
also_instruction false o f = f

store_instruction : (i : Operator) → store_fits i ≡ true → operator_fits i ≡ true
unfolding operator_fits store_fits
store_instruction (Ld o) f = absurd (false≢true f)
store_instruction (Ldn o) f = absurd (false≢true f)
store_instruction (And o) f = absurd (false≢true f)
store_instruction (Andn o) f = absurd (false≢true f)
store_instruction Or f = refl
store_instruction Close f = refl
store_instruction (St o) f = or_l _ _ f
store_instruction (S o) f = f
store_instruction (R o) f = f
store_instruction (Cal o) f = absurd (false≢true f)
store_instruction (LdTime n) f = absurd (false≢true f)

pub moves_instruction : {s r : Reading} {i : Operator} → StepsTo s i r → operator_fits i ≡ true
unfolding operator_fits load_of and_of load_fits flip_flop_fits output_fits parameter_fits block_fits
moves_instruction (begins t e f h) = load_instruction t.wanted t.operand f
moves_instruction (begins_next t e f h) = load_instruction t.wanted t.operand f
moves_instruction (begins_inside t e f h) = load_instruction t.wanted t.operand f
moves_instruction (adds t e f h) = also_instruction t.wanted t.operand f
moves_instruction (adds_inside t e f h) = also_instruction t.wanted t.operand f
moves_instruction (opens e) = refl
moves_instruction (closes e) = refl
moves_instruction (stores i e f h) = store_instruction i f
moves_instruction (stores_next i e f h) = store_instruction i f
moves_instruction {s} (gives_in e h k) = in_range 1 most_timers (suc s.timers) (omega arith) k
moves_instruction (gives_time n e f) = f
moves_instruction {s} (gives_pt e k) = in_range 1 most_timers (suc s.timers) (omega arith) k
moves_instruction {s} (calls e k) = in_range 1 most_timers (suc s.timers) (omega arith) k
