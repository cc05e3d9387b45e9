-- A store in a part of a list is a store in the whole.
use Rattle.std.specs.Prelude.{◌≡◌, List, ◌++◌, ℕ, ◌+◌, ◌-◌, ◌≤◌, ◌<◌, length, take, drop, set}
use Rattle.std.proofs.Common.{append-nil, le_refl, arith, length-drop, take-append-drop, drop_of_length-le, take_all, drop-set-lt}
use Rattle.std.proofs.lemmas.List.{take-set-le, drop-set-add}
use Rattle.std.proofs.Math.Seq.{take-set-lt}

-- in the part from b on
pub set_tail : (xs : List ℕ) (b i v : ℕ) →
    take b xs ++ (set (take (length xs - b) (drop b xs)) i v ++ drop (length xs - b) (drop b xs)) ≡ set xs (b + i) v
set_tail xs b i v =
    let h : length (drop b xs) ≤ length xs - b = simp length-drop (le_refl (length xs - b)) in
    rw (take_all (length xs - b) (drop b xs) h, drop_of_length-le (drop b xs) h, append-nil, ← drop-set-add b xs i v, ← take-set-le b xs (b + i) v (omega arith))
    (take-append-drop b (set xs (b + i) v))

-- in the part up to b
pub set_head : (xs : List ℕ) (b i v : ℕ) → i < b → set (take b xs) i v ++ drop b xs ≡ set xs i v
set_head xs b i v h = rw (← take-set-lt b xs i v h, ← drop-set-lt b xs i v h) (take-append-drop b (set xs i v))
