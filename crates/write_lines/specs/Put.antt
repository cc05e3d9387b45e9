-- What a writer leaves: the word w over the list l from the place i on, as far as l goes, and the next place, up to the largest.
use Rattle.std.specs.Prelude.{◌≡◌, refl, List, [], ◌++◌, ℕ, ◌+◌, ◌≤◌, min, length}
use Rattle.std.proofs.Common.{ap, sym, ◌∙◌, arith, length-append}
use Rattle.std.proofs.Math.Decide.{dec_le}
use Rattle.std.proofs.lemmas.List.Edits.{sets}
use Rattle.std.proofs.Math.Seq.{length-sets}
use Rattle.meaning.proofs.Laws.Rows.{sets_append, sets_out}
use Rattle.meaning.specs.Rows.{most64}

-- the list m and the place r that a writer of w leaves, where it starts at the place i of l
pub record BytesPut (l : List ℕ) (i : ℕ) (w m : List ℕ) (r : ℕ) : Type 0 where
  pub fits : length l ≤ most64
  pub list : m ≡ sets l i w
  pub next : r ≡ min (i + length w) most64

-- a place beyond the largest is beyond every list
sets_top : (l : List ℕ) (i : ℕ) (w : List ℕ) → length l ≤ most64 → sets l (min i most64) w ≡ sets l i w
sets_top l i w h = elim (dec_le i most64) [
  | yes p ↦ (let e : min i most64 ≡ i = omega arith in rw e)
  | no f ↦ sets_out l (min i most64) w (omega arith) ∙ sym (sets_out l i w (omega arith))
]

-- two writers in a row
pub put_put : {l m n v w : List ℕ} {i j k : ℕ} → BytesPut l i v m j → BytesPut m j w n k → BytesPut l i (v ++ w) n k
put_put {l} {v = v} {w} {i} p q = record {
  fits = p.fits;
  list = (rw (p.list, p.next) at q.list) ∙ sets_top (sets l i v) (i + length v) w (simp length-sets p.fits) ∙ sym (sets_append v l i w);
  next = omega (arith, p.next, q.next, length-append v w);
}

pub put_none : (l : List ℕ) (i : ℕ) → length l ≤ most64 → i ≤ most64 → BytesPut l i [] l i
put_none l i h g = record { fits = h; list = refl; next = omega arith }

-- a writer keeps the length
pub put_length : {l w m : List ℕ} {i r : ℕ} → BytesPut l i w m r → length m ≡ length l
put_length {l} {w} {i = i} p = ap length p.list ∙ length-sets l i w
