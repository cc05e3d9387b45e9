-- Pieces do not matter: a file fed in two pieces is the file fed whole, state and stored numbers alike.
use Rattle.std.specs.Prelude.{◌≡◌, refl, ℕ, ◌≤◌, List, [], ◌∷◌, ◌++◌, length}
use Rattle.std.proofs.Common.{sym, ap, ◌∙◌, append_assoc}
use Rattle.std.proofs.lemmas.List.Edits.{sets}
use Rattle.std.proofs.Math.Seq.{length-sets}
use Rattle.csv_cursor.specs.declared.Reader.{Reader}
use Rattle.csv_field.specs.Field.{most64}
use Rattle.csv_records.specs.Automaton.{feed_byte, emits, feed_all, emitted, Fed}
use Rattle.csv_records.specs.StepLaws.{sets_next}

pub feed_append : (r : Reader) (xs ys : List ℕ) → feed_all r (xs ++ ys) ≡ feed_all (feed_all r xs) ys
unfolding feed_all
feed_append r [] ys = refl
feed_append r (b ∷ xs) ys = feed_append (feed_byte r b) xs ys

pub emitted_append : (r : Reader) (xs ys : List ℕ) → emitted r (xs ++ ys) ≡ emitted r xs ++ emitted (feed_all r xs) ys
unfolding feed_all emitted
emitted_append r [] ys = refl
emitted_append r (b ∷ xs) ys = rw (emitted_append (feed_byte r b) xs ys) (sym (append_assoc (emits r b) (emitted (feed_byte r b) xs) (emitted (feed_all (feed_byte r b) xs) ys)))

-- the stores of some bytes, then others
pub sets_fed : (l : List ℕ) (r : Reader) (xs w : List ℕ) → length l ≤ most64 → sets (sets l r.at (emitted r xs)) (feed_all r xs).at w ≡ sets l r.at (emitted r xs ++ w)
unfolding feed_all emitted
sets_fed l r [] w h = refl
sets_fed l r (b ∷ xs) w h =
    let m = sets l r.at (emits r b) in
    let g : length m ≤ most64 = rw (length-sets l r.at (emits r b)) h in
    rw (append_assoc (emits r b) (emitted (feed_byte r b) xs) w, ← sets_next l r b (emitted (feed_byte r b) xs) h, ← sets_next l r b (emitted (feed_byte r b) xs ++ w) h)
    (sets_fed m (feed_byte r b) xs w g)

-- two calls of `feed` are one on both pieces
pub pieces_join : (r s t : Reader) (xs ys out mid left : List ℕ) → length out ≤ most64 → Fed r xs out s mid → Fed s ys mid t left → Fed r (xs ++ ys) out t left
pieces_join r s t xs ys out mid left h f g = record {
  state = g.state ∙ (ap (λ (z : Reader). feed_all z ys) f.state ∙ sym (feed_append r xs ys));
  stored = rw (emitted_append r xs ys, g.stored, f.stored, f.state) (sets_fed out r xs (emitted (feed_all r xs) ys) h);
}
