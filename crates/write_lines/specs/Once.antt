-- No second answer of any function of this crate: the bytes at exit and the next place; of a part, where it fits.
use Rattle.std.proofs.Common.{sym, ◌∙◌}
use Rattle.std.specs.Prelude.{List, [], ◌∷◌, ℕ, ◌+◌, ◌≤◌, length}
use Rattle.meaning.specs.Once.{Once}
use Rattle.meaning.proofs.Laws.Once.{two}
use Rattle.format.specs.Text.{decimal}
use Rattle.write_lines.specs.Put.{BytesPut}
use Rattle.write_lines.specs.Fit.{PutIfRoom}

-- whatever is put
pub one_put : (l : List ℕ) (i : ℕ) (w : List ℕ) → Once {A = ℕ × List ℕ} (λ (r, m). BytesPut l i w m r)
one_put l i w x y p q = two (p.next ∙ sym q.next, p.list ∙ sym q.list)

-- there is room for w from the place i of l on
abbrev pub RoomFor : List ℕ → ℕ → List ℕ → Type 0
RoomFor l i w = i + length w ≤ length l

-- whatever fits
pub one_fit : (l : List ℕ) (i : ℕ) (w : List ℕ) → RoomFor l i w → Once {A = ℕ × List ℕ} (λ (r, m). PutIfRoom l i w m r)
one_fit l i w h x y p q = two (p.next ∙ sym q.next, p.list h ∙ sym (q.list h))

pub put_once : (l : List ℕ) (i b : ℕ) → Once {A = ℕ × List ℕ} (λ (r, m). BytesPut l i (b ∷ []) m r)
put_once l i b = one_put l i (b ∷ [])

pub put_bytes_once : (l : List ℕ) (i : ℕ) (w : List ℕ) → Once {A = ℕ × List ℕ} (λ (r, m). BytesPut l i w m r)
put_bytes_once l i w = one_put l i w

pub put_decimal_once : (l : List ℕ) (i n : ℕ) → Once {A = ℕ × List ℕ} (λ (r, m). BytesPut l i (decimal n) m r)
put_decimal_once l i n = one_put l i (decimal n)

pub put_part_once : (l : List ℕ) (i : ℕ) (w : List ℕ) → RoomFor l i w → Once {A = ℕ × List ℕ} (λ (r, m). PutIfRoom l i w m r)
put_part_once l i w = one_fit l i w
