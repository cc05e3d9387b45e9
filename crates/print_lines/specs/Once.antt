-- No second answer of either function of this crate; of a run's lines where there are as many leaves as outputs.
use Rattle.std.specs.Prelude.{◌≡◌, List, ◌++◌, ℕ, length}
use Rattle.meaning.specs.Once.{Once}
use Rattle.meaning.specs.declared.Refusal.{Refusal}
use Rattle.format.specs.Printed.{refusal_line}
use Rattle.write_lines.specs.Put.{BytesPut}
use Rattle.write_lines.specs.Once.{one_put}
use Rattle.print_lines.specs.Results.{scan_lines_from}

pub put_refusal_once : (l : List ℕ) (at : ℕ) (r : Refusal) → Once {A = ℕ × List ℕ} (λ (n, m). BytesPut l at (refusal_line r) m n)
put_refusal_once l at r = one_put l at (refusal_line r)

pub put_run_once : (l text ls os : List ℕ) → length os ≡ length ls → Once {A = ℕ × List ℕ} (λ (r, m). length os ≡ length ls → BytesPut l 0 (text ++ scan_lines_from 1 ls os) m r)
put_run_once l text ls os e x y p q = one_put l 0 _ x y (p e) (q e)
