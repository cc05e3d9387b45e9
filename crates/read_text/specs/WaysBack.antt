-- The two ways back: what was written is read as its words, and what was read is written as its bytes.
use Rattle.meaning.specs.Refusals.{Answer}
use Rattle.std.specs.Prelude.{◌≡◌, refl, ℕ, ◌≤◌, true, List, length, take, drop, Ok}
use Rattle.std.proofs.Common.{ap, ◌∙◌, arith, take_at}
use Rattle.meaning.specs.Programs.{Program, program_fits}
use Rattle.meaning.specs.Calls.{overlaid}
use Rattle.format.specs.Words.{words}
use Rattle.format.specs.Text.{text}
use Rattle.format.proofs.Laws.Words.{words_same}
use Rattle.read_text.specs.Reads.{TextRead, reads, cramped, refuses}
use Rattle.read_text.specs.ReadLaws.{text_read_once}

-- reading a written text gives its words
pub written_read : {entry exit : List ℕ} {r : Answer} (p : Program) → program_fits p ≡ true → length (words p) ≤ length entry → TextRead (text p) entry r exit → (r ≡ Ok (length (words p))) × (exit ≡ overlaid (words p) entry)
written_read p f h t = text_read_once t (reads p f refl h)

-- writing what was read gives its bytes
pub read_written : {l entry exit : List ℕ} {r : Answer} {n : ℕ} (p : Program) → program_fits p ≡ true → r ≡ Ok n → words p ≡ take n exit → TextRead l entry r exit → text p ≡ l
unfolding overlaid
read_written {entry = entry} {n = n} p f e w (reads q g d h) =
    let k : length (words q) ≡ n = cc in
    ap text (words_same p q f g (w ∙ take_at (words q) (drop (length (words q)) entry) n k)) ∙ d
read_written p f e w (cramped q g d h) = absurd (let z : ◌≡◌ {A = ℕ} 0 1 = cc in omega arith)
read_written p f e w (refuses k t) = absurd (let z : ◌≡◌ {A = ℕ} 0 1 = cc in omega arith)
