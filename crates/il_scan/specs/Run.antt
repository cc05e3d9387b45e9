-- What the functions compute of the words: all of them, and up to the next CAL. Follow.antt proves that the
-- instructions of an accepted program do the same.
use Rattle.format.specs.Decode.{Decoded}
use Rattle.std.specs.Prelude.{ℕ, suc, Bool, true, false, cond, List, [], ◌∷◌, length, get_or, set, ltb}
use Rattle.meaning.specs.Scan.{blank}
use Rattle.meaning.specs.declared.Block.{Block}
use Rattle.format.specs.Decode.{decoded}
use Rattle.il_instruction.specs.declared.Registers.{Registers}
use Rattle.il_values.specs.Value.{with_bit, qs_of}
use Rattle.il_instruction.specs.Effect.{with_qs, running, flip_flops_after}
use Rattle.il_called.specs.Due.{due}
use Rattle.il_block.specs.Called.{called_with}
use Rattle.il_scan.specs.declared.Stop.{Stop}

-- where the words up to a CAL, or all of them, have led
pub record Reached : Type 0 where
  pub stop : Stop
  pub flip_flops : List ℕ

abbrev pub stopped_at : ℕ → ℕ → Registers → Stop
stopped_at at k s = record { at = at; due = true; block = k; input = s.input; pt = s.pt; running = s }

abbrev pub ended_at : ℕ → Registers → Stop
ended_at at s = record { at = at; due = false; block = 0; input = s.input; pt = s.pt; running = s }

unfoldable pub advanced : ℕ → ℕ → List ℕ → ℕ → Registers → List ℕ → Reached
advanced x c [] at s fs = record { stop = ended_at at s; flip_flops = fs }
advanced x c (w ∷ ws) at s fs = cond (ltb (due c (decoded w)) c)
    (record { stop = stopped_at (suc at) (due c (decoded w)) s; flip_flops = fs })
    (advanced x c ws (suc at) (running x fs (decoded w) s) (flip_flops_after (decoded w) s.result fs))

-- after CAL of the block that was due, whose Q is now q
unfoldable pub resumed : Stop → Bool → Stop
resumed p q = ended_at p.at (with_qs (with_bit p.running.qs p.block q) p.running)

-- ---- the scan

-- where a scan stands
pub record ScanPoint : Type 0 where
  pub s : Registers
  pub flip_flops : List ℕ
  pub bs : List Block

-- CAL of block k, from 0
unfoldable pub calling : ℕ → ℕ → ScanPoint → ScanPoint
calling d k w = let b = called_with d w.s.input w.s.pt (get_or w.bs k blank) in
    record { s = with_qs (with_bit w.s.qs k b.q) w.s; flip_flops = w.flip_flops; bs = set w.bs k b }

unfoldable pub one_word : ℕ → ℕ → Decoded → ScanPoint → ScanPoint
one_word d x i w = cond (ltb (due (length w.bs) i) (length w.bs))
    (calling d (due (length w.bs) i) w)
    (record { s = running x w.flip_flops i w.s; flip_flops = flip_flops_after i w.s.result w.flip_flops; bs = w.bs })

unfoldable pub whole_scan : ℕ → ℕ → List ℕ → ScanPoint → ScanPoint
whole_scan d x [] w = w
whole_scan d x (i ∷ is) w = whole_scan d x is (one_word d x (decoded i) w)

abbrev pub fresh_registers : ℕ → Registers
fresh_registers qs = record { result = false; deferred = false; time = 0; input = false; pt = 0; qs = qs; outputs = 0 }

-- the start of a scan
abbrev pub begun_with : List ℕ → List Block → ScanPoint
begun_with fs bs = record { s = fresh_registers (qs_of bs); flip_flops = fs; bs = bs }
