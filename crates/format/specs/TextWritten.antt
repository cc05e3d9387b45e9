-- What a writer of text answers and leaves.
use Rattle.meaning.specs.Refusals.{Answer}
use Rattle.std.specs.Prelude.{◌≡◌, cond, List, ℕ, length, leb, Ok, Err}
use Rattle.meaning.specs.Calls.{overlaid}
use Rattle.meaning.specs.declared.Refusal.TheVariants as R
use Rattle.format.specs.Places.{room}

-- the length of the text t where the slice l has room for it, else ROOM with that length as `room` gives it
abbrev pub text_answer : List ℕ → List ℕ → Answer
text_answer t l = cond (leb (length t) (length l)) (Ok (length t)) (Err (R.Room (room (length t))))

-- "An accepted call writes its result from the front and keeps the rest of the slice."; "A refusal writes nothing."
abbrev pub text_left : List ℕ → List ℕ → List ℕ
text_left t l = cond (leb (length t) (length l)) (overlaid t l) l

-- the text t into a slice that held l and holds m afterwards, with the answer a
pub record TextWritten (t l : List ℕ) (a : Answer) (m : List ℕ) : Type 0 where
  pub answer : a ≡ text_answer t l
  pub out : m ≡ text_left t l
