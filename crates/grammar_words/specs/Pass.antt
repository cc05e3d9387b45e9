-- What the pass over a list of words answers, and the laws of its loop.
use Rattle.std.specs.Prelude.{◌≡◌, refl, ℕ, suc, ◌+◌, ◌≤◌, ◌<◌, true, false, List, length, get_or, take, Ok, Err, Result}
use Rattle.std.proofs.Common.{sym, ap, ◌∙◌, add-one, arith}
use Rattle.std.proofs.Math.Seq.{take-length}
use Rattle.meaning.specs.Programs.{Program, program_fits}
use Rattle.format.specs.declared.Reading.{Reading}
use Rattle.format.specs.Words.{words, AcceptedWords}
use Rattle.format.specs.Places.{WordPlace}
use Rattle.format.specs.Decode.{decoded}
use Rattle.format.specs.Automata.Phases.{begin, begin_words, alive, may_end, step_word, after_words}
use Rattle.format.proofs.Laws.Words.{accepted_words, words_step, refused_word, unfinished_words, words_same, place_same, program_timers}

-- the words are those of a program with d blocks
pub record Holds (l : List ℕ) (d : ℕ) : Type 0 where
  pub program : Program
  pub fitting : program_fits program ≡ true
  pub listing : words program ≡ l
  pub blocks : length program.timers ≡ d

-- the blocks of the program that the words are, or the place of TEXT
abbrev pub WordsPassed : List ℕ → (Result ℕ ℕ) → Type 0
WordsPassed l (Ok d) = Holds l d
WordsPassed l (Err k) = WordPlace l k

-- there is no second answer
pub passed_same : (l : List ℕ) (r q : (Result ℕ ℕ)) → WordsPassed l r → WordsPassed l q → r ≡ q
passed_same l (Ok d) (Ok e) h k = ap Ok (sym h.blocks ∙ ap (λ p. length p.timers) (words_same h.program k.program h.fitting k.fitting (h.listing ∙ sym k.listing)) ∙ k.blocks)
passed_same l (Ok d) (Err j) h k = absurd (k.refused (h.program, h.fitting, h.listing))
passed_same l (Err i) (Ok e) h k = absurd (h.refused (k.program, k.fitting, k.listing))
passed_same l (Err i) (Err j) h k = ap Err (place_same AcceptedWords _ l i j h k)

-- ---- the loop

-- the reader took the first i words, and knows s
pub record Took (l : List ℕ) (i : ℕ) (s : Reading) : Type 0 where
  pub within : i ≤ length l
  pub knows : s ≡ after_words begin_words (take i l)
  pub lives : alive s ≡ true

pub took_none : (l : List ℕ) → Took l 0 begin_words
unfolding after_words begin alive
took_none l = record { within = omega arith; knows = refl; lives = refl }

module _ {l : List ℕ} {i : ℕ} {s : Reading} (t : Took l i s) where
  took_word : (r : Reading) → i < length l → r ≡ step_word s (decoded (get_or l i 0)) → r ≡ after_words begin_words (take (suc i) l)
  took_word r h e = e ∙ ap (λ x. step_word x (decoded (get_or l i 0))) t.knows ∙ sym (words_step l i begin_words h)

  pub took_one : (r : Reading) → i < length l → r ≡ step_word s (decoded (get_or l i 0)) → alive r ≡ true → Took l (i + 1) r
  took_one r h e a = rw add-one (record { within = omega arith; knows = took_word r h e; lives = a })

  pub took_refused : (r : Reading) → i < length l → r ≡ step_word s (decoded (get_or l i 0)) → alive r ≡ false → WordPlace l i
  took_refused r h e a = refused_word l i h (rw (← t.knows) t.lives) (rw (← t.knows, ← e) a)

  took_all : length l ≤ i → s ≡ after_words begin_words l
  took_all h = let e : i ≡ length l = omega (arith, t.within) in rw (e, take-length) at t.knows

  pub took_accepted : length l ≤ i → may_end s ≡ true → Holds l s.timers
  took_accepted h e =
      let k = took_all h in
      let a = (accepted_words l).1 (rw k at e) in
      record { program = a.0; fitting = a.1; listing = a.2; blocks = sym (program_timers a.0 a.1) ∙ rw (a.2, ← k) }

  pub took_unfinished : length l ≤ i → may_end s ≡ false → WordPlace l i
  took_unfinished h e =
      let k = took_all h in
      let n : i ≡ length l = omega (arith, t.within) in
      rw n (unfinished_words l (rw k at t.lives) (rw k at e))
