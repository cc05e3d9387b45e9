-- That a text has one answer only, and that two passes over it give it.
use Rattle.meaning.specs.Refusals.{Answer}
use Rattle.std.specs.Prelude.{◌≡◌, refl, ℕ, ◌≤◌, ◌<◌, min, List, length, Ok, Err, Result}
use Rattle.std.proofs.Common.{sym, ap, ◌∙◌, zero-add, arith}
use Rattle.std.proofs.lemmas.List.Edits.{sets, sets-eq}
use Rattle.meaning.specs.Calls.{overlaid}
use Rattle.meaning.specs.declared.Refusal.TheVariants.{Room, Text}
use Rattle.format.specs.Words.{words}
use Rattle.format.specs.Places.{TextPlace, WholeLines, room}
use Rattle.format.specs.Text.{AcceptedText}
use Rattle.format.proofs.Laws.Words.{place_same}
use Rattle.format.proofs.Laws.Text.{text_same}
use Rattle.read_pass.specs.Passes.{TextPassed, Pass}
use Rattle.read_text.specs.Reads.{TextRead, reads, cramped, refuses}

pub overlaid_sets : (w entry : List ℕ) → length w ≤ length entry → sets entry 0 w ≡ overlaid w entry
unfolding overlaid
overlaid_sets w entry h = sets-eq w entry 0 (omega arith) ∙ rw zero-add

-- "That no second answer is allowed is proved"
pub text_read_once : {l entry m o : List ℕ} {r q : Answer} → TextRead l entry r m → TextRead l entry q o → (r ≡ q) × (m ≡ o)
text_read_once {entry = entry} (reads p f e h) (reads q g d k) = let z = text_same p q f g (e ∙ sym d) in (ap (λ x. Ok (length (words x))) z, ap (λ x. overlaid (words x) entry) z)
text_read_once (reads p f e h) (cramped q g d k) = absurd (let z = text_same p q f g (e ∙ sym d) in omega (arith, ap (λ x. length (words x)) z))
text_read_once (reads p f e h) (refuses k t) = absurd (t.refused (p, f, e))
text_read_once (cramped p f e h) (reads q g d k) = absurd (let z = text_same p q f g (e ∙ sym d) in omega (arith, ap (λ x. length (words x)) z))
text_read_once (cramped p f e h) (cramped q g d k) = let z = text_same p q f g (e ∙ sym d) in (ap (λ x. Err (Room (room (length (words x))))) z, refl)
text_read_once (cramped p f e h) (refuses k t) = absurd (t.refused (p, f, e))
text_read_once (refuses k t) (reads p f e h) = absurd (t.refused (p, f, e))
text_read_once (refuses k t) (cramped p f e h) = absurd (t.refused (p, f, e))
text_read_once {l} (refuses k t) (refuses j u) = (ap (λ x. Err (Text x)) (place_same AcceptedText (WholeLines l) l k j t u), refl)

-- a refusal leaves the slice as it was
pub read_cramped : {l x y : List ℕ} {n : ℕ} (entry exit : List ℕ) → exit ≡ entry → TextPassed l x n y → length entry < n → n ≤ 18446744073709551615 → TextRead l entry (Err (Room n)) exit
unfolding room
read_cramped {n = n} entry exit f q h k =
    let e : n ≡ min (length (words q.program)) 18446744073709551615 = omega (arith, q.count) in
    rw (e, f) (cramped q.program q.fitting q.listing (omega (arith, q.count)))

pub read_stopped : {l : List ℕ} {k : ℕ} (entry exit : List ℕ) → exit ≡ entry → TextPlace l k → TextRead l entry (Err (Text k)) exit
read_stopped {k = k} entry exit f t = rw f (refuses k t)

pub read_passed : {l x y : List ℕ} {n : ℕ} (entry exit : List ℕ) (r : Result ℕ ℕ) → TextPassed l x n y → n ≤ length entry → Pass l entry r exit → TextRead l entry (Ok n) exit
read_passed {n = n} entry exit (Ok m) p h q =
    let z = text_same p.program q.program p.fitting q.fitting (p.listing ∙ sym q.listing) in
    let e : n ≡ length (words q.program) = p.count ∙ ap (λ g. length (words g)) z in
    let k : length (words q.program) ≤ length entry = omega arith in
    rw (e, q.list, overlaid_sets (words q.program) entry k) (reads q.program q.fitting q.listing k)
read_passed entry exit (Err k) p h q = absurd (q.refused (p.program, p.fitting, p.listing))

-- what a second pass answers is the answer
pub read_again : {l x y : List ℕ} {n : ℕ} (entry exit : List ℕ) (s : Result ℕ ℕ) {r : Answer} → TextPassed l x n y → n ≤ length entry → Pass l entry s exit → ((m : ℕ) → s ≡ Ok m → r ≡ Ok m) → TextRead l entry r exit
read_again {n = n} entry exit (Ok m) p h q f =
    let z = text_same p.program q.program p.fitting q.fitting (p.listing ∙ sym q.listing) in
    let e : n ≡ m = p.count ∙ ap (λ g. length (words g)) z ∙ sym q.count in
    rw (f m refl, ← e) (read_passed entry exit (Ok m) p h q)
read_again entry exit (Err k) p h q f = absurd (q.refused (p.program, p.fitting, p.listing))
