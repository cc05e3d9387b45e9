-- The machine's state as the code holds it, and what a run of it leaves.
use Rattle.std.specs.Prelude.{◌≡◌, ℕ, ◌/◌, ◌≤◌, ◌<◌, List, map, length, get_or, take, ℤ}
use Rattle.meaning.specs.Tables.{Tables, state_count, move_count, timer_count}
use Rattle.meaning.specs.Machine.{State, Seen, trace, state_after_scans}
use Rattle.meaning.proofs.Laws.Machine.{SoundMemory}
use Rattle.tables.specs.Given.{Lent}
use Rattle.check_pairing.specs.Words.{PairedWords}
use Rattle.check_needs.specs.Words.{need_words}
use Rattle.chart_scan.specs.Choice.{LinkedTo, HoldTo}
use Rattle.chart_timers.specs.Times.{longest}

-- the state that is held in an array of sub-states and an array of values
abbrev pub held : Tables → List ℕ → List ℕ → State
held c m ts = record { memory = take (state_count c) m; timers = take (timer_count c) ts }

-- a memory as a valid state has it: each super-state leads to a sub-state of its own, a leaf has 0
abbrev pub MemorySound : Tables → List ℕ → Type 0
MemorySound c m = SoundMemory c m

-- what is made once for all scans: of each state the timers that run in it, the moves by their source, what the moves need, N scan steps of each timer
pub record Made (c : Tables) (runs links needs most : List ℕ) : Type 0 where
  pub running : PairedWords c c.timer_pairs runs
  pub linked : LinkedTo c (move_count c) links
  pub holds : HoldTo c (move_count c) needs
  pub room : move_count c ≤ length needs / need_words
  pub longest : (i : ℕ) → i < timer_count c → get_or most i 0 ≡ longest c.scan_step (get_or c.presets i 0)

-- room for what is made, with no outputs in it
pub record Empty (c : Tables) (shows needs : List ℕ) : Type 0 where
  pub shows_room : state_count c ≤ length shows
  pub needs_room : move_count c ≤ length needs / need_words
  pub no_shows : (s : ℕ) → get_or shows s 0 ≡ 0

-- after scans on the words xs from s: the state, the leaves and the output words
pub record StateScanned (c : Tables) (s : State) (xs : List ℕ) (s' : State) (ls os : List ℕ) : Type 0 where
  pub state : s' ≡ state_after_scans c s xs
  pub leaves : ls ≡ map (λ (e : Seen). e.leaf) (trace c s xs)
  pub outputs : os ≡ map (λ (e : Seen). e.outputs) (trace c s xs)

-- c is what these numbers and tables are
pub record TablesGiven (c : Tables) (d o : ℕ) (ss : List ℕ) (ms : List ℤ) (ps ts os : List ℕ) : Type 0 where
  pub step : c.scan_step ≡ d
  pub outputs : c.outputs ≡ o
  pub lent : Lent c ss ms ps ts os
