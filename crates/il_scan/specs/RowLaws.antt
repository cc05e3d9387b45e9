-- One turn of each loop over the words and over a row of blocks.
use Rattle.std.specs.Prelude.{◌≡◌, ℕ, ◌+◌, ◌≤◌, ◌<◌, List, length, get_or, drop}
use Rattle.std.proofs.Common.{add-one, drop_of_length-le, drop-cons, lt-ltb, le-ltb, le_refl}
use Rattle.meaning.specs.Scan.{blank}
use Rattle.meaning.specs.declared.Block.{Block}
use Rattle.format.specs.Decode.{decoded}
use Rattle.il_values.specs.Value.{with_bit}
use Rattle.il_called.specs.Due.{due}
use Rattle.il_instruction.specs.Effect.{running, flip_flops_after}
use Rattle.il_scan.specs.Run.{ScanPoint, calling, one_word, whole_scan}
use Rattle.il_scan.specs.Row.{q_word}

pub q_on : (bs : List Block) (i qs : ℕ) → i < length bs → q_word i (drop i bs) qs ≡ q_word (i + 1) (drop (i + 1) bs) (with_bit qs i (get_or bs i blank).q)
unfolding q_word
q_on bs i qs h = rw (drop-cons bs i blank h, add-one)

pub q_end : (bs : List Block) (i qs : ℕ) → length bs ≤ i → q_word i (drop i bs) qs ≡ qs
unfolding q_word
q_end bs i qs h = rw (drop_of_length-le bs {i = i} h)

module _ (d x : ℕ) (ws : List ℕ) (i : ℕ) (w : ScanPoint) where
  -- a word that calls the block k
  pub scan_called : (k : ℕ) → i < length ws → k ≡ due (length w.bs) (decoded (get_or ws i 0)) → k < length w.bs
      → whole_scan d x (drop i ws) w ≡ whole_scan d x (drop (i + 1) ws) (calling d k w)
  unfolding whole_scan one_word
  scan_called k h e g = rw (add-one, drop-cons ws i 0 h, whole_scan, one_word, ← e, lt-ltb k (length w.bs) g)

  -- a word that calls none
  pub scan_ran : i < length ws → due (length w.bs) (decoded (get_or ws i 0)) ≡ length w.bs
      → whole_scan d x (drop i ws) w ≡ whole_scan d x (drop (i + 1) ws)
      (record { s = running x w.flip_flops (decoded (get_or ws i 0)) w.s; flip_flops = flip_flops_after (decoded (get_or ws i 0)) w.s.result w.flip_flops; bs = w.bs })
  unfolding whole_scan one_word
  scan_ran h e = rw (add-one, drop-cons ws i 0 h, whole_scan, one_word, e, le-ltb (length w.bs) (length w.bs) (le_refl (length w.bs)))

  -- with no word left the scan is over
  pub scan_end : length ws ≤ i → whole_scan d x (drop i ws) w ≡ w
  unfolding whole_scan
  scan_end h = rw (drop_of_length-le ws {i = i} h)
