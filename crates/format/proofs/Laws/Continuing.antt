-- What the reader has not refused it can still end: what is missing can be written.
use Rattle.std.specs.Prelude.{◌≡◌, refl, ℕ, zero, suc, ◌+◌, ◌-◌, ◌≤◌, max, true, List, [], ◌∷◌, replicate}
use Rattle.std.proofs.Common.{ap, inr, arith}
use Rattle.std.proofs.Math.Decide.{dec_le}
use Rattle.std.proofs.lemmas.Bool.{false≢true}
use Rattle.std.proofs.lemmas.List.{length-replicate}
use Rattle.meaning.proofs.Laws.Rows.{and_l, and_r}
use Rattle.meaning.specs.Tables.{most_timers}
use Rattle.meaning.specs.Programs.{Test, TimerRung, all, testable, constant, load_fits, body_fits, flip_flop_fits, store_fits, timer_rung_fits}
use Rattle.meaning.specs.declared.Operand.TheVariants.{Mx, True}
use Rattle.meaning.specs.declared.Operator.{Operator}
use Rattle.meaning.specs.declared.Operator.TheVariants.{St}
use Rattle.format.specs.declared.Phase.{Phase}
use Rattle.format.specs.declared.Phase.TheVariants.{Between, Body, Opened, Inside, Stored, GivenIn, GivenTime, GivenPt, Refused}
use Rattle.format.specs.declared.Reading.{Reading}
use Rattle.format.specs.Decode.{operator_fits}
use Rattle.format.specs.Automata.Phases.{begin, to, naming, settled, phase_counted, block, phase_step, phase_after_all, alive}
use Rattle.format.proofs.Laws.Phases.{StepsTo, begins, begins_next, begins_inside, adds, adds_inside, opens, closes, stores, stores_next, gives_in, gives_time, gives_pt, calls, step_moves}
use Rattle.format.proofs.Laws.Passing.{AcceptsFrom, accepts_by, passes_end, passes_timers}

-- ---- a move is between readings that are not refused

pub moves_from : {s r : Reading} {i : Operator} → StepsTo s i r → alive s ≡ true
unfolding alive
moves_from (begins t e f h) = rw e
moves_from (begins_next t e f h) = rw e
moves_from (begins_inside t e f h) = rw e
moves_from (adds t e f h) = rw e
moves_from (adds_inside t e f h) = rw e
moves_from (opens e) = rw e
moves_from (closes e) = rw e
moves_from (stores i e f h) = rw e
moves_from (stores_next i e f h) = rw e
moves_from (gives_in e h k) = rw e
moves_from (gives_time n e f) = rw e
moves_from (gives_pt e k) = rw e
moves_from (calls e k) = rw e

pub alive_before : (l : List Operator) (s : Reading) → all operator_fits l ≡ true → alive (phase_after_all s l) ≡ true → alive s ≡ true
unfolding all phase_after_all
alive_before [] s f e = e
alive_before (i ∷ l) s f e = moves_from (step_moves s i (and_l (operator_fits i) _ f) (alive_before l (phase_step s i) (and_r (operator_fits i) _ f) e))

-- ---- what is so in every reading

-- one more block where its rung is begun
abbrev pub claimed : Phase → ℕ
claimed Between = 0
claimed Body = 0
claimed Opened = 0
claimed Inside = 0
claimed Stored = 0
claimed GivenIn = 1
claimed GivenTime = 1
claimed GivenPt = 1
claimed Refused = 0

-- the blocks that may still come: none right after a store
abbrev pub coming : Phase → ℕ
coming Between = most_timers
coming Body = most_timers
coming Opened = most_timers
coming Inside = most_timers
coming Stored = 0
coming GivenIn = most_timers
coming GivenTime = most_timers
coming GivenPt = most_timers
coming Refused = most_timers

pub record SoundReading (s : Reading) : Type 0 where
  pub named : s.named ≤ s.most
  pub timers : s.timers + claimed s.phase ≤ s.most
  pub small : s.most ≤ most_timers
  pub last : s.most ≤ s.timers + coming s.phase

pub begin_sound : (a b : ℕ) → a ≤ b → b ≤ most_timers → SoundReading (begin a b)
unfolding begin
begin_sound a b h k = omega arith

pub moves_sound : {s r : Reading} {i : Operator} → StepsTo s i r → SoundReading s → SoundReading r
moves_sound (begins t e f h) s = omega (arith, ap claimed e)
moves_sound (begins_next t e f h) s = omega (arith, ap claimed e)
moves_sound (begins_inside t e f h) s = omega (arith, ap claimed e)
moves_sound (adds t e f h) s = omega (arith, ap claimed e)
moves_sound (adds_inside t e f h) s = omega (arith, ap claimed e)
moves_sound (opens e) s = omega (arith, ap claimed e)
moves_sound (closes e) s = omega (arith, ap claimed e)
moves_sound (stores i e f h) s = omega (arith, ap claimed e)
moves_sound (stores_next i e f h) s = omega (arith, ap claimed e)
moves_sound (gives_in e h k) s = omega (arith, ap claimed e)
moves_sound (gives_time n e f) s = omega (arith, ap claimed e)
moves_sound (gives_pt e k) s = omega (arith, ap claimed e)
moves_sound (calls e k) s = omega (arith, ap claimed e)

pub after_sound : (l : List Operator) (s : Reading) → all operator_fits l ≡ true → alive (phase_after_all s l) ≡ true → SoundReading s → SoundReading (phase_after_all s l)
unfolding all phase_after_all
after_sound [] s f e h = h
after_sound (i ∷ l) s f e h =
    let g = and_r (operator_fits i) _ f in
    after_sound l (phase_step s i) g e (moves_sound (step_moves s i (and_l (operator_fits i) _ f) (alive_before l (phase_step s i) g e)) h)

-- ---- what is missing

Ending : Reading → Type 0
Ending s = (l : List Operator) × AcceptsFrom s l

ending_by : {s r : Reading} {i : Operator} → StepsTo s i r → Ending r → Ending s
unfolding Ending
ending_by {i = i} m e = (i ∷ e.0, accepts_by m e.1)

-- LD TRUE and a time of 1 ms
plain_test : Test
plain_test = record { wanted = true; operand = True }

plain_rung : TimerRung
plain_rung = record { body = record { first = plain_test; parts = [] }; time = 1 }

plain_fits : (d k : ℕ) → all (timer_rung_fits d) (replicate k plain_rung) ≡ true
unfolding all timer_rung_fits body_fits load_fits testable constant plain_rung plain_test
plain_fits d zero = refl
plain_fits d (suc k) = plain_fits d k

end_between : (s : Reading) → SoundReading s → s.phase ≡ Between → Ending s
unfolding Ending all
end_between s h e =
    let d = max s.named s.timers in (
      _,
      passes_timers d (omega arith) s.timers (replicate (d - s.timers) plain_rung) [] (omega (arith, length-replicate (d - s.timers) plain_rung)) (plain_fits d (d - s.timers)) refl
          s (record { phase = e; timers = refl; named = omega arith; most = omega arith }),
    )

end_stored : (s : Reading) → SoundReading s → s.phase ≡ Stored → Ending s
unfolding Ending
end_stored s h e = let z = ap coming e in ([], passes_end s.timers (omega arith) Stored (inr refl) s (record { phase = e; timers = refl; named = omega arith; most = omega arith }))

end_pt : (s : Reading) → SoundReading s → s.phase ≡ GivenPt → Ending s
end_pt s h e = let m : StepsTo s _ (phase_counted s) = calls e (omega (arith, ap claimed e)) in ending_by m (end_between _ (moves_sound m h) refl)

end_time : (s : Reading) → SoundReading s → s.phase ≡ GivenTime → Ending s
end_time s h e = let m : StepsTo s _ (to GivenPt s) = gives_pt e (omega (arith, ap claimed e)) in ending_by m (end_pt _ (moves_sound m h) refl)

end_in : (s : Reading) → SoundReading s → s.phase ≡ GivenIn → Ending s
end_in s h e = let m : StepsTo s _ (to GivenTime s) = gives_time 1 e refl in ending_by m (end_time _ (moves_sound m h) refl)

end_body : (s : Reading) → SoundReading s → s.phase ≡ Body → Ending s
unfolding store_fits flip_flop_fits
end_body s h e = elim (dec_le s.named s.timers) [
  | yes k ↦ (let m : StepsTo s _ (settled s) = stores (St (Mx 0)) e refl k in ending_by m (end_stored _ (moves_sound m h) refl))
  | no k ↦ (let m : StepsTo s _ (to GivenIn s) = gives_in e (omega arith) (omega arith) in ending_by m (end_in _ (moves_sound m h) refl))
]

end_inside : (s : Reading) → SoundReading s → s.phase ≡ Inside → Ending s
end_inside s h e = let m : StepsTo s _ (to Body s) = closes e in ending_by m (end_body _ (moves_sound m h) refl)

end_opened : (s : Reading) → SoundReading s → s.phase ≡ Opened → Ending s
unfolding plain_test block load_fits testable constant
end_opened s h e = let m : StepsTo s _ (naming 0 (to Inside s)) = begins_inside plain_test e refl (omega arith) in ending_by m (end_inside _ (moves_sound m h) refl)

-- a reading that is not refused can be ended
pub can_end : (s : Reading) → SoundReading s → alive s ≡ true → (l : List Operator) × AcceptsFrom s l
unfolding Ending alive
can_end s h a = go s.phase refl
  where
    go : (w : Phase) → s.phase ≡ w → Ending s
    go Between e = end_between s h e
    go Body e = end_body s h e
    go Opened e = end_opened s h e
    go Inside e = end_inside s h e
    go Stored e = end_stored s h e
    go GivenIn e = end_in s h e
    go GivenTime e = end_time s h e
    go GivenPt e = end_pt s h e
    go Refused e = absurd (false≢true (rw e at a))
