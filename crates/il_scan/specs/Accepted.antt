-- Of instructions the scan by words is the scan by instructions.
use Rattle.std.specs.Prelude.{◌≡◌, refl, ℕ, true, List, [], ◌∷◌, map}
use Rattle.meaning.proofs.Laws.Rows.{and_l, and_r}
use Rattle.meaning.specs.Programs.{all}
use Rattle.meaning.specs.declared.Operator.{Operator}
use Rattle.format.specs.Words.{word}
use Rattle.format.specs.Decode.{operator_fits}
use Rattle.format.proofs.Laws.Decode.{decode_word}
use Rattle.il_scan.specs.Run.{ScanPoint, whole_scan}
use Rattle.il_scan.specs.Follow.{ran_all}

pub scan_words : (d x : ℕ) (is : List Operator) (w : ScanPoint) → all operator_fits is ≡ true → whole_scan d x (map word is) w ≡ ran_all d x is w
unfolding all whole_scan ran_all
scan_words d x [] w e = refl
scan_words d x (i ∷ is) w e = rw (whole_scan, decode_word i (and_l (operator_fits i) (all operator_fits is) e)) (scan_words d x is _ (and_r (operator_fits i) (all operator_fits is) e))
