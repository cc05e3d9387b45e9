-- What the calls answer, and document 01's refusals: the number and the place of each.
use Rattle.std.specs.Prelude.{ℕ, ⊤, Result, Ok, Err}
use Rattle.meaning.specs.declared.Refusal.{Refusal}
use Rattle.meaning.specs.declared.Refusal.TheVariants as R

-- what the check of the tables answers: accepted, or why not
abbrev pub Verdict : Type 0
Verdict = Result ⊤ Refusal

-- what the other calls answer: a number, or why there is none
abbrev pub Answer : Type 0
Answer = Result ℕ Refusal

abbrev pub number_of : Refusal → ℕ
number_of R.Size = 1
number_of (R.Hierarchy p) = 2
number_of (R.Initial p) = 3
number_of (R.Preset p) = 4
number_of (R.TimerPair p) = 5
number_of (R.OutputPair p) = 6
number_of (R.Move p) = 7
number_of (R.Literal p) = 8
number_of (R.IdleTimer p) = 9
number_of (R.Overlap p) = 10
number_of R.FlipFlops = 11
number_of (R.Room p) = 12
number_of (R.Text p) = 13
number_of R.State = 14
number_of R.Scans = 15
number_of (R.Field p) = 16

-- "The place is the least failing row, from 0."; where 01's table says 0 it is 0; ROOM carries the length needed, TEXT
-- its byte or word (Places.antt of format)
abbrev pub place_of : Refusal → ℕ
place_of R.Size = 0
place_of (R.Hierarchy p) = p
place_of (R.Initial p) = p
place_of (R.Preset p) = p
place_of (R.TimerPair p) = p
place_of (R.OutputPair p) = p
place_of (R.Move p) = p
place_of (R.Literal p) = p
place_of (R.IdleTimer p) = p
place_of (R.Overlap p) = p
place_of R.FlipFlops = 0
place_of (R.Room p) = p
place_of (R.Text p) = p
place_of R.State = 0
place_of R.Scans = 0
place_of (R.Field p) = p

-- the first row of the table: 0, ACCEPTED, "none of the below", 0
abbrev pub verdict_number : Verdict → ℕ
verdict_number (Ok tt) = 0
verdict_number (Err r) = number_of r

abbrev pub verdict_place : Verdict → ℕ
verdict_place (Ok tt) = 0
verdict_place (Err r) = place_of r
