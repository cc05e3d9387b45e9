-- The places of TEXT and ROOM.
use Rattle.std.specs.Prelude.{◌≡◌, ℕ, suc, ◌≤◌, ◌<◌, min, List, ◌++◌, length, get_or, take}
use Rattle.meaning.specs.Rows.{most64}
use Rattle.format.specs.Words.{AcceptedWords}
use Rattle.format.specs.Text.{AcceptedText}

-- some accepted list begins with the first k of l
abbrev pub Continues : (List ℕ → Type 0) → List ℕ → ℕ → Type 0
Continues Accepts l k = (more : List ℕ) × Accepts (take k l ++ more)

-- 13 TEXT at k, of a list that is not accepted: "byte where the first line begins (or index of the first word) that
-- no accepted text has after those before it; the length if only lines or words are missing". Whole k: the first k
-- are whole lines or words.
pub record Place (Accepts : List ℕ → Type 0) (Whole : ℕ → Type 0) (l : List ℕ) (k : ℕ) : Type 0 where
  pub refused : Accepts l → ⊥
  pub within : k ≤ length l
  pub whole : Whole k
  pub before : Continues Accepts l k
  pub after : (j : ℕ) → k < j → j ≤ length l → Whole j → Continues Accepts l j → ⊥

-- the first k bytes are lines that end in LF: "A last line without LF is one that no text has."
abbrev pub WholeLines : List ℕ → ℕ → Type 0
WholeLines l k = (i : ℕ) → suc i ≡ k → get_or l i 0 ≡ 10

abbrev pub TextPlace : List ℕ → ℕ → Type 0
TextPlace l = Place AcceptedText (WholeLines l) l

abbrev pub WordPlace : List ℕ → ℕ → Type 0
WordPlace l = Place AcceptedWords (λ k. Unit {0}) l

-- 12 ROOM: the "length needed", or the largest that the answer can hold (docs/DECISIONS.md)
unfoldable pub room : ℕ → ℕ
room n = min n most64
