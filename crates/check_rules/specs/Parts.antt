-- A part of the test of MOVE that has a function of its own.
use Rattle.std.specs.Prelude.{◌≡◌, Bool, not, ◌&&◌, ◌||◌, ℕ, ℤ}
use Rattle.meaning.specs.Tables.{Tables, cell, target}
use Rattle.meaning.specs.Hierarchy.{is_leaf}
use Rattle.meaning.specs.Check.{below}

-- MOVE: "other mark, mark 1 on a leaf"
abbrev pub mark_passes : Tables → ℕ → Bool
mark_passes c i = below 1 (cell c i 2) || (below 2 (cell c i 2) && not (is_leaf c (target c i)))

pub below_same : (m n : ℕ) (y z : ℤ) → m ≡ n → y ≡ z → below m y ≡ below n z
below_same m n y z p q = rw (p, q)
