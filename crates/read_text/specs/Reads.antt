-- What the reader of a text answers.
use Rattle.meaning.specs.Refusals.{Answer}
use Rattle.std.specs.Prelude.{◌≡◌, ℕ, ◌≤◌, ◌<◌, true, List, length, Ok, Err}
use Rattle.meaning.specs.Programs.{Program, program_fits}
use Rattle.meaning.specs.Calls.{overlaid}
use Rattle.meaning.specs.declared.Refusal.TheVariants.{Room, Text}
use Rattle.format.specs.Words.{words}
use Rattle.format.specs.Text.{text}
use Rattle.format.specs.Places.{TextPlace, room}

-- "An accepted call writes its result from the front and keeps the rest of the slice"; "A refusal writes nothing."
pub data TextRead (l entry : List ℕ) : Answer → List ℕ → Type 0 where
  reads : (p : Program) → program_fits p ≡ true → text p ≡ l → length (words p) ≤ length entry → TextRead l entry (Ok (length (words p))) (overlaid (words p) entry)
  cramped : (p : Program) → program_fits p ≡ true → text p ≡ l → length entry < length (words p) → TextRead l entry (Err (Room (room (length (words p))))) entry
  refuses : (k : ℕ) → TextPlace l k → TextRead l entry (Err (Text k)) entry
