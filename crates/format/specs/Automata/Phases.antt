-- Reading instructions one by one: what the reader knows, what it can go on with, and where it may end.
use Rattle.format.specs.Decode.{Decoded}
use Rattle.std.specs.Prelude.{ℕ, suc, max, Bool, ◌&&◌, ◌||◌, not, cond, List, [], ◌∷◌, leb, eqb, Some, None}
use Rattle.meaning.specs.Tables.{most_timers}
use Rattle.meaning.specs.declared.Operand.{Operand}
use Rattle.meaning.specs.declared.Operand.TheVariants.{Mx, Ix, Qx, TimerQ, TimerIn, TimerPt, Timer, False, True}
use Rattle.meaning.specs.declared.Operator.{Operator}
use Rattle.meaning.specs.declared.Operator.TheVariants.{Ld, Ldn, And, Andn, Or, Close, St, S, R, Cal, LdTime}
use Rattle.format.specs.declared.Phase.{Phase}
use Rattle.format.specs.declared.Phase.TheVariants.{Between, Body, Opened, Inside, Stored, GivenIn, GivenTime}
use Rattle.format.specs.declared.Phase.TheVariants.{GivenPt, Refused}
use Rattle.format.specs.declared.Reading.{Reading}
use Rattle.format.specs.Decode.{decoded}

abbrev pub phase_number : Phase → ℕ
phase_number Between = 0
phase_number Body = 1
phase_number Opened = 2
phase_number Inside = 3
phase_number Stored = 4
phase_number GivenIn = 5
phase_number GivenTime = 6
phase_number GivenPt = 7
phase_number Refused = 8

abbrev pub at : Phase → Reading → Bool
at w s = eqb (phase_number s.phase) (phase_number w)

-- before the first instruction, with at least a and at most b blocks: words do not say how many (0 and 32), a text does
unfoldable pub begin : ℕ → ℕ → Reading
begin a b = record { phase = Between; timers = 0; named = a; most = b }

abbrev pub begin_words : Reading
begin_words = begin 0 most_timers

abbrev pub to : Phase → Reading → Reading
to w s = record { phase = w; timers = s.timers; named = s.named; most = s.most }

-- a body tests Tn.Q (n is 0 for a test of anything else)
abbrev pub naming : ℕ → Reading → Reading
naming n s = record { phase = s.phase; timers = s.timers; named = max s.named n; most = s.most }

-- a store: no more timer rungs
abbrev pub settled : Reading → Reading
settled s = record { phase = Stored; timers = s.timers; named = s.named; most = s.timers }

-- one more timer rung is complete
abbrev pub phase_counted : Reading → Reading
phase_counted s = record { phase = Between; timers = suc s.timers; named = s.named; most = s.most }

abbrev pub phase_if : Bool → Reading → Reading → Reading
phase_if ok t s = cond ok t (to Refused s)

-- the block that an operand names, or 0
unfoldable pub block : Operand → ℕ
block (Mx n) = 0
block (Ix n) = 0
block (Qx n) = 0
block (TimerQ n) = n
block (TimerIn n) = n
block (TimerPt n) = n
block (Timer n) = n
block False = 0
block True = 0

-- LD and LDN begin a rung or a bracket
unfoldable pub load : ℕ → Reading → Reading
load n s =
    cond (at Opened s) (phase_if (leb n s.most) (naming n (to Inside s)) s)
    (phase_if ((at Between s || at Stored s) && leb n s.most) (naming n (to Body s)) s)

unfoldable pub also : ℕ → Reading → Reading
also n s = phase_if ((at Body s || at Inside s) && leb n s.most) (naming n s) s

unfoldable pub phase_opened : Reading → Reading
phase_opened s = phase_if (at Body s) (to Opened s) s

unfoldable pub phase_closed : Reading → Reading
phase_closed s = phase_if (at Inside s) (to Body s) s

-- the first ST, S or R on %MX or %QX ends the timer rungs; no accepted list has it if an earlier body named a block
-- not declared by then
unfoldable pub store : Reading → Reading
store s = phase_if ((at Body s || at Stored s) && leb s.named s.timers) (settled s) s

-- the four lines of the next block
unfoldable pub give_in : ℕ → Reading → Reading
give_in n s = phase_if (at Body s && eqb n (suc s.timers) && leb n s.most) (to GivenIn s) s

unfoldable pub give_time : Reading → Reading
give_time s = phase_if (at GivenIn s) (to GivenTime s) s

unfoldable pub give_pt : ℕ → Reading → Reading
give_pt n s = phase_if (at GivenTime s && eqb n (suc s.timers)) (to GivenPt s) s

unfoldable pub call : ℕ → Reading → Reading
call n s = phase_if (at GivenPt s && eqb n (suc s.timers)) (phase_counted s) s

-- ST, by what it stores to
unfoldable pub phase_put : Operand → Reading → Reading
phase_put (Mx n) s = store s
phase_put (Ix n) s = store s
phase_put (Qx n) s = store s
phase_put (TimerQ n) s = store s
phase_put (TimerIn n) s = give_in n s
phase_put (TimerPt n) s = give_pt n s
phase_put (Timer n) s = store s
phase_put False s = store s
phase_put True s = store s

unfoldable pub phase_step : Reading → Operator → Reading
phase_step s (Ld o) = load (block o) s
phase_step s (Ldn o) = load (block o) s
phase_step s (And o) = also (block o) s
phase_step s (Andn o) = also (block o) s
phase_step s Or = phase_opened s
phase_step s Close = phase_closed s
phase_step s (St o) = phase_put o s
phase_step s (S o) = store s
phase_step s (R o) = store s
phase_step s (Cal o) = call (block o) s
phase_step s (LdTime n) = give_time s

unfoldable pub phase_after_all : Reading → List Operator → Reading
phase_after_all s [] = s
phase_after_all s (i ∷ is) = phase_after_all (phase_step s i) is

-- what was read is the front of some accepted list
unfoldable pub alive : Reading → Bool
alive s = not (at Refused s)

-- it is an accepted list
unfoldable pub may_end : Reading → Bool
may_end s = (at Between s || at Stored s) && leb s.named s.timers

-- ---- by words

unfoldable pub step_word : Reading → Decoded → Reading
step_word s (Some i) = phase_step s i
step_word s None = to Refused s

unfoldable pub after_words : Reading → List ℕ → Reading
after_words s [] = s
after_words s (n ∷ ns) = after_words (step_word s (decoded n)) ns
