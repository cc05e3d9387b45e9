-- What a run over a lent chart state answers and leaves.
use Rattle.meaning.specs.Refusals.{Answer}
use Rattle.meaning.specs.Refusals.{Verdict}
use Rattle.std.specs.Prelude.{◌≡◌, ℕ, List, [], ◌∷◌, map, length, replicate, Ok, Err}
use Rattle.meaning.specs.Tables.{Tables}
use Rattle.meaning.specs.Machine.{Seen, trace, state_after_scans}
use Rattle.meaning.specs.Lent.{state_of, lent_of}
use Rattle.meaning.specs.Check.{verdict_of}
use Rattle.meaning.specs.Calls.{state_check, scans_check}
use Rattle.chart_scan.specs.Held.{Empty}
use Rattle.chart_state_read.specs.Codes.{StateRoom}

-- room for a run, with nothing in it
pub record RunRoom (c : Tables) (wants memory runs shows needs : List ℕ) : Type 0 where
  pub state : StateRoom c wants memory (replicate 32 0) runs
  pub scans : Empty c shows needs

-- "then 14, 15": the checks after those of the tables
abbrev pub later_verdict : Tables → List ℕ → List ℕ → List ℕ → List ℕ → Verdict
later_verdict c l xs ls os = verdict_of (state_check c l ∷ scans_check (length xs) (length ls) ∷ scans_check (length xs) (length os) ∷ [])

-- the answer of a run of n scans
unfoldable pub answer : ℕ → Verdict → Answer
answer n (Ok tt) = Ok n
answer n (Err r) = Err r

-- "A refusal writes nothing."
unfoldable pub left : Verdict → List ℕ → List ℕ → List ℕ
left (Ok tt) new old = new
left (Err r) new old = old

-- a run over the words xs, from the lent state l and the results ls and os to l', ls' and os'
pub record LentRun (c : Tables) (xs l ls os : List ℕ) (r : Answer) (l' ls' os' : List ℕ) : Type 0 where
  pub answers : r ≡ answer (length xs) (later_verdict c l xs ls os)
  pub state : l' ≡ left (later_verdict c l xs ls os) (lent_of c (state_after_scans c (state_of c l) xs)) l
  pub leaves : ls' ≡ left (later_verdict c l xs ls os) (map (λ (e : Seen). e.leaf) (trace c (state_of c l) xs)) ls
  pub outputs : os' ≡ left (later_verdict c l xs ls os) (map (λ (e : Seen). e.outputs) (trace c (state_of c l) xs)) os
