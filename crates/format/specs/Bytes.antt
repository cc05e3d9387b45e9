-- Demands 2 and 3 about the bytes of a text: what they say does what the chart says.
use Rattle.std.specs.Prelude.{◌≡◌, ℕ, true, List}
use Rattle.meaning.specs.Tables.{Tables}
use Rattle.meaning.specs.Programs.{Program, program_fits}
use Rattle.meaning.specs.Demands.{DoesTheChart, RunsAsRead}
use Rattle.format.specs.Text.{text}

-- the bytes are an accepted text, and p is its program: its instructions are what the bytes say
pub record Says (l : List ℕ) (p : Program) : Type 0 where
  pub fitting : program_fits p ≡ true
  pub listing : text p ≡ l

-- the bytes are a translation of the chart: what they say meets demand 2 and demand 3
pub record Translates (c : Tables) (l : List ℕ) : Type 0 where
  pub program : Program
  pub says : Says l program
  pub does : DoesTheChart c program
  pub runs : RunsAsRead c program
