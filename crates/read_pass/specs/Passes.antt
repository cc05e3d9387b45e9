-- What a pass over a text, line after line, comes to.
use Rattle.std.specs.Prelude.{◌≡◌, ℕ, ◌+◌, ◌%◌, ◌≤◌, ◌<◌, true, List, length, get_or, set, Ok, Err, Result}
use Rattle.std.proofs.lemmas.List.Edits.{sets}
use Rattle.meaning.specs.Programs.{Program, program_fits}
use Rattle.format.specs.declared.Line.{Line}
use Rattle.format.specs.declared.Line.TheVariants.{Header, Var, Block, EndVar, Says, EndProgram, Unknown}
use Rattle.format.specs.Words.{word, words}
use Rattle.format.specs.Text.{text}
use Rattle.format.specs.Places.{TextPlace}

-- from is where a line begins: its LF, or the end of the text
pub record LineEnd (l : List ℕ) (from to : ℕ) : Type 0 where
  pub after : from ≤ to
  pub within : to ≤ length l
  pub lf : to < length l → get_or l to 0 ≡ 10
  pub none : (i : ℕ) → from ≤ i → i < to → get_or l i 0 ≡ 10 → ⊥

-- how many words there are with one line more
abbrev pub words_counted : ℕ → Line → ℕ
words_counted n Header = n
words_counted n Var = n
words_counted n (Block k) = n
words_counted n EndVar = n
words_counted n (Says i) = n + 1
words_counted n EndProgram = n
words_counted n Unknown = n

-- and what they are, in a slice
abbrev pub placed : List ℕ → ℕ → Line → List ℕ
placed o n Header = o
placed o n Var = o
placed o n (Block k) = o
placed o n EndVar = o
placed o n (Says i) = set o n (word i % 4294967296)
placed o n EndProgram = o
placed o n Unknown = o

-- over the whole text: the words of its program, as far as the slice goes
pub record TextPassed (l entry : List ℕ) (n : ℕ) (exit : List ℕ) : Type 0 where
  pub program : Program
  pub fitting : program_fits program ≡ true
  pub listing : text program ≡ l
  pub count : n ≡ length (words program)
  pub few : n ≤ length l
  pub list : exit ≡ sets entry 0 (words program)

-- that, or the place where it stops
abbrev pub Pass : List ℕ → List ℕ → Result ℕ ℕ → List ℕ → Type 0
Pass l entry (Ok n) exit = TextPassed l entry n exit
Pass l entry (Err k) exit = TextPlace l k
