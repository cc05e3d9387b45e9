-- What a writer of lines leaves: where the word w fits into the list l from the place i on, it stands there; the next place
-- in any case, up to the largest. Where it does not fit, the caller has measured before and writes nothing.
use Rattle.std.specs.Prelude.{◌≡◌, refl, List, [], ◌++◌, ℕ, ◌+◌, ◌≤◌, min, length}
use Rattle.std.proofs.Common.{sym, ◌∙◌, arith, length-append, append_assoc, drop-drop, take, drop}
use Rattle.std.proofs.lemmas.List.Edits.{sets, sets-eq}
use borrow.Rule.Slice.PartMut.{put_mid}
use Rattle.meaning.specs.Rows.{most64}
use Rattle.meaning.proofs.Laws.Rows.{sets_append}
use Rattle.write_lines.specs.Put.{BytesPut, put_length}

pub record PutIfRoom (l : List ℕ) (i : ℕ) (w m : List ℕ) (r : ℕ) : Type 0 where
  pub small : length l ≤ most64
  pub long : length m ≡ length l
  pub list : i + length w ≤ length l → m ≡ sets l i w
  pub next : r ≡ min (i + length w) most64

-- a writer as far as the list reaches is one
pub put_fit : {l w m : List ℕ} {i r : ℕ} → BytesPut l i w m r → PutIfRoom l i w m r
put_fit p = record { small = p.fits; long = put_length p; list = λ h. p.list; next = p.next }

-- two writers in a row
pub fit_fit : {l m n v w : List ℕ} {i j k : ℕ} → PutIfRoom l i v m j → PutIfRoom m j w n k → PutIfRoom l i (v ++ w) n k
fit_fit {l} {m} {n} {v} {w} {i} {j} p q = record {
  small = p.small;
  long = q.long ∙ p.long;
  list = λ h.
      let a = length-append v w in
      let e : j ≡ i + length v = omega (arith, p.next, p.small) in
      let f = p.list (omega arith) in
      let g = q.list (omega (arith, p.long)) in
      rw (f, e) at g ∙ sym (sets_append v l i w);
  next = omega (arith, p.next, q.next, length-append v w);
}

pub ruleset in_a_row = (put_fit, fit_fit)

pub fit_none : (l : List ℕ) (i : ℕ) → length l ≤ most64 → i ≤ most64 → PutIfRoom l i [] l i
fit_none l i h g = record { small = h; long = refl; list = λ x. refl; next = omega arith }

-- w in the place of as many items
pub sets_part : (l : List ℕ) (i k : ℕ) (w : List ℕ) → i + length w ≤ length l → k ≡ length w → put_mid i k l w ≡ sets l i w
sets_part l i k w h e = rw (e, drop-drop (length w) i l, ← append_assoc (take i l) w (drop (i + length w) l)) (sym (sets-eq w l i h))
