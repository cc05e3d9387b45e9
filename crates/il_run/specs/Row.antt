-- Whether the blocks of a row are in time, block by block from the first, and what a run over a lent row leaves.
use Rattle.std.specs.Prelude.{◌≡◌, ℕ, suc, Bool, ◌&&◌, List, [], ◌∷◌}
use Rattle.std.proofs.lemmas.List.Edits.{sets}
use Rattle.meaning.specs.declared.Block.{Block}
use Rattle.il_block.specs.Called.{in_its_time}
use Rattle.il_scan.specs.Row.{scan_of}

-- whether the blocks from place i on are in time, after those before it
unfoldable pub in_time : ℕ → List Block → List ℕ → Bool → Bool
in_time i [] ts ok = ok
in_time i (b ∷ bs) ts ok = in_time (suc i) bs ts (ok && in_its_time i b ts)

-- what a run is over: the bytes, the row, and the output words of its scans
pub record RunData : Type 0 where
  pub flip_flops : List ℕ
  pub bs : List Block
  pub os : List ℕ

-- one scan for each input word
unfoldable pub run_of : ℕ → List ℕ → List ℕ → List Block → List ℕ → RunData
run_of d ws fs bs [] = record { flip_flops = fs; bs = bs; os = [] }
run_of d ws fs bs (x ∷ xs) = let z = scan_of d x ws fs bs in let r = run_of d ws z.flip_flops z.bs xs in record { flip_flops = r.flip_flops; bs = r.bs; os = z.s.outputs ∷ r.os }

-- the bytes, the row and the result slice that a run leaves
pub record RowRun (d : ℕ) (ws xs fs : List ℕ) (bs : List Block) (l fs' : List ℕ) (bs' : List Block) (l' : List ℕ) : Type 0 where
  pub flip_flops : fs' ≡ (run_of d ws fs bs xs).flip_flops
  pub blocks : bs' ≡ (run_of d ws fs bs xs).bs
  pub results : l' ≡ sets l 0 (run_of d ws fs bs xs).os
