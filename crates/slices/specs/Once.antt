-- No second answer of any function of this crate.
use Rattle.std.specs.Prelude.{◌≡◌, List, ℕ, min, get_or, set}
use Rattle.meaning.specs.Once.{Once}
use Rattle.meaning.proofs.Laws.Once.{is_once}
use Rattle.slices.specs.Numbers.{with_number}

pub at_once : (A : Type 0) (l : List A) (i : ℕ) (d : A) → Once (λ r. r ≡ get_or l i d)
at_once A l i d = is_once (get_or l i d)

pub put_once : (A : Type 0) (l : List A) (i : ℕ) (x : A) → Once (λ m. m ≡ set l i x)
put_once A l i x = is_once (set l i x)

pub shorter_once : (a b : ℕ) → Once (λ r. r ≡ min a b)
shorter_once a b = is_once (min a b)

pub with_number_once : (w n : ℕ) → Once (λ r. r ≡ with_number w n)
with_number_once w n = is_once (with_number w n)
