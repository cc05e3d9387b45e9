-- What a scan reads of a row of timer blocks, and what it leaves.
use Rattle.std.specs.Prelude.{◌≡◌, ℕ, suc, List, [], ◌∷◌}
use Rattle.meaning.specs.declared.Block.{Block}
use Rattle.il_values.specs.Value.{with_bit}
use Rattle.il_scan.specs.Run.{ScanPoint, whole_scan, fresh_registers}

-- the blocks' Q as a word, T1's the lowest bit; a word has no bit for a block after the 64th
unfoldable pub q_word : ℕ → List Block → ℕ → ℕ
q_word i [] qs = qs
q_word i (b ∷ bs) qs = q_word (suc i) bs (with_bit qs i b.q)

-- a scan of the words ws over a row, with the input word x
unfoldable pub scan_of : ℕ → ℕ → List ℕ → List ℕ → List Block → ScanPoint
scan_of d x ws fs bs = whole_scan d x ws (record { s = fresh_registers (q_word 0 bs 0); flip_flops = fs; bs = bs })

-- the bytes, the row and the output word that a scan leaves
pub record RowScan (d x : ℕ) (ws fs : List ℕ) (bs : List Block) (fs' : List ℕ) (bs' : List Block) (o : ℕ) : Type 0 where
  pub flip_flops : fs' ≡ (scan_of d x ws fs bs).flip_flops
  pub blocks : bs' ≡ (scan_of d x ws fs bs).bs
  pub outputs : o ≡ (scan_of d x ws fs bs).s.outputs
