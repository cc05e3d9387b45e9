-- What the call for the size of a controller answers, that it has no second answer, and that the blocks of the pass and the
-- bytes of the words are the one that it gives.
use Rattle.std.specs.Prelude.{◌≡◌, ℕ, true, List, length, Ok, Err, Result}
use Rattle.std.proofs.Common.{sym, ◌∙◌}
use Rattle.meaning.specs.Programs.{Program, instructions, program_fits, flip_flop_bytes}
use Rattle.meaning.specs.declared.Refusal.{Refusal}
use Rattle.meaning.specs.declared.Refusal.TheVariants.{Text}
use Rattle.format.specs.Words.{words, AcceptedWords}
use Rattle.format.specs.Places.{WordPlace}
use Rattle.format.proofs.Laws.Passing.{program_instructions}
use Rattle.format.proofs.Laws.Words.{words_same, place_same}
use Rattle.grammar_words.specs.Pass.{Holds}
use Rattle.il_sizes.specs.declared.Sizes.{Sizes}
use Rattle.il_sizes.specs.Bytes.{bytes_named, bytes_words}

abbrev pub SizesAnswer : Type 0
SizesAnswer = Result Sizes Refusal

-- "flip-flop bytes not one more than the highest %MX the program names (0 if none), blocks not as many as declared"
pub data SizesTold (l : List ℕ) (r : SizesAnswer) : Type 0 where
  accepted : (p : Program) → program_fits p ≡ true → words p ≡ l → r ≡ Ok (record { flip_flops = flip_flop_bytes (instructions p); blocks = length p.timers }) → SizesTold l r
  refused : (k : ℕ) → WordPlace l k → r ≡ Err (Text k) → SizesTold l r

pub sizes_told_same : {l : List ℕ} {r q : SizesAnswer} → SizesTold l r → SizesTold l q → r ≡ q
sizes_told_same (SizesTold.accepted p f e r) (SizesTold.accepted s g d q) = let z = words_same p s f g (e ∙ sym d) in cc
sizes_told_same (SizesTold.accepted p f e r) (SizesTold.refused k h q) = absurd (h.refused (p, f, e))
sizes_told_same (SizesTold.refused k h r) (SizesTold.accepted s g d q) = absurd (h.refused (s, g, d))
sizes_told_same {l} (SizesTold.refused k h r) (SizesTold.refused j i q) = let e = place_same AcceptedWords _ l k j h i in cc

-- ---- the answer

holds_bytes : {l : List ℕ} {d : ℕ} (h : Holds l d) → bytes_named l ≡ flip_flop_bytes (instructions h.program)
unfolding words
holds_bytes h = rw (← h.listing) (bytes_words (instructions h.program) (program_instructions h.program h.fitting))

pub sizes_told : {l : List ℕ} {d b : ℕ} → Holds l d → b ≡ bytes_named l → SizesTold l (Ok (record { flip_flops = b; blocks = d }))
sizes_told h e = SizesTold.accepted h.program h.fitting h.listing (rw (← h.blocks, ← holds_bytes h, e))
