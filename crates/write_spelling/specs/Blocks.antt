-- The line on a block, with its LF behind what follows the block's name.
use Rattle.std.specs.Prelude.{◌≡◌, List, ◌++◌, ℕ}
use Rattle.std.proofs.Common.{append_assoc}
use Rattle.format.specs.Text.{bytes, decimal, line}

pub on_block : (w t : List ℕ) (n : ℕ) → line (w ++ (bytes "T" ++ (decimal n ++ t))) ≡ w ++ (bytes "T" ++ (decimal n ++ line t))
unfolding line
on_block w t n = simp append_assoc
