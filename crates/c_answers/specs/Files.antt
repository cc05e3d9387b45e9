-- Which file C names by a number, and what the reader of a file tells.
use Rattle.std.specs.Prelude.{ℕ, cond, eqb, Result, Ok, Err}
use Rattle.meaning.specs.declared.Refusal.{Refusal}
use Rattle.csv_file.specs.declared.File.{File}
use Rattle.csv_file.specs.declared.File.TheVariants.{Frame, States, Moves, Presets, TimerPairs, OutputPairs, Scans}
use Rattle.csv_file.specs.declared.FileRead.{FileRead}
use Rattle.c_answers.specs.declared.CAnswer.{CAnswer}
use Rattle.c_answers.specs.Answers.{Told}

-- "in the order of the program section", from 0
abbrev pub file_of : ℕ → File
file_of kind = cond (eqb kind 0) Frame (cond (eqb kind 1) States (cond (eqb kind 2) Moves (cond (eqb kind 3) Presets (cond (eqb kind 4) TimerPairs (cond (eqb kind 5) OutputPairs Scans)))))

-- the length is how many numbers there are
abbrev pub RecordsTold : Result FileRead Refusal → CAnswer → Type 0
RecordsTold (Ok f) a = Told (Ok tt) f.numbers a
RecordsTold (Err r) a = Told (Err r) 0 a
