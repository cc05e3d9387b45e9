-- What a scan leaves: computed for any words, and for the words of a program that fits what its instructions leave.
use Rattle.std.specs.Prelude.{◌≡◌, refl, ℕ, ◌≤◌, true, length}
use Rattle.std.proofs.Common.{sym, ◌∙◌}
use mathlib.Core.List.{List, [], head_d}
use Rattle.meaning.specs.Machine.{word_of}
use Rattle.meaning.specs.Programs.{Program, instructions, program_fits}
use Rattle.meaning.specs.Scan.{Controller, scan_begun, executed_all, scanned, output_word}
use Rattle.meaning.specs.declared.Block.{Block}
use Rattle.format.specs.Words.{words}
use Rattle.format.proofs.Laws.Passing.{program_instructions}
use Rattle.il_scan.specs.Run.{ScanPoint, whole_scan, begun_with}
use Rattle.il_scan.specs.Follow.{StandsMidScan, program}
use Rattle.il_scan.specs.Accepted.{scan_words}

abbrev pub controller_of : List ℕ → List Block → Controller
controller_of fs bs = record { flip_flops = fs; blocks = bs }

unfoldable pub whole_from : ℕ → ℕ → List ℕ → Controller → ScanPoint
whole_from d x ws k = whole_scan d x ws (begun_with k.flip_flops k.blocks)

-- the controller after a scan of the words ws, and the output word
unfoldable pub after_scan : ℕ → ℕ → List ℕ → Controller → Controller
after_scan d x ws k = controller_of (whole_from d x ws k).flip_flops (whole_from d x ws k).bs

unfoldable pub output_after : ℕ → ℕ → List ℕ → Controller → ℕ
output_after d x ws k = (whole_from d x ws k).s.outputs

-- ---- by a program that fits

-- words of a program that fits, and as many blocks as a word has bits
pub record Fitting (p : Program) (ws : List ℕ) : Type 0 where
  pub program : program_fits p ≡ true
  pub list : words p ≡ ws

begin_same : (k : Controller) → length k.blocks ≤ 64 → StandsMidScan [] (begun_with k.flip_flops k.blocks) (scan_begun k)
unfolding scan_begun word_of head_d
begin_same k h = record { result = refl; deferred = refl; kept = refl; time = refl; flip_flops = refl; blocks = refl; few = h; qs = refl; outputs = refl; size = refl }

scan_same : (d x : ℕ) (p : Program) (ws : List ℕ) (k : Controller) → Fitting p ws → length k.blocks ≤ 64 → StandsMidScan [] (whole_from d x ws k) (executed_all d x (instructions p) (scan_begun k))
unfolding words whole_from
scan_same d x p ws k f h =
    rw (← f.list, scan_words d x (instructions p) (begun_with k.flip_flops k.blocks) (program_instructions p f.program))
    (program d x p f.program _ _ (begin_same k h))

pub scan_right : (d x : ℕ) (p : Program) (ws : List ℕ) (k : Controller) → Fitting p ws → length k.blocks ≤ 64
    → (after_scan d x ws k ≡ scanned d x (instructions p) k) × (output_after d x ws k ≡ output_word d x (instructions p) k)
unfolding after_scan output_after scanned output_word
scan_right d x p ws k f h =
    let s = scan_same d x p ws k f h in
    let e : (executed_all d x (instructions p) (scan_begun k)).controller ≡ controller_of (executed_all d x (instructions p) (scan_begun k)).controller.flip_flops (executed_all d x (instructions p) (scan_begun k)).controller.blocks = refl in
    (sym (e ∙ rw (s.flip_flops, s.blocks)), s.outputs)

-- the number of blocks stays
pub after_length : (d x : ℕ) (p : Program) (ws : List ℕ) (k : Controller) → Fitting p ws → length k.blocks ≤ 64 → length (after_scan d x ws k).blocks ≤ 64
unfolding after_scan
after_length d x p ws k f h = (scan_same d x p ws k f h).few

-- ---- what the functions promise

-- one scan: from the controller k to k', with the output word o
pub record OneScan (d x : ℕ) (ws : List ℕ) (k k' : Controller) (o : ℕ) : Type 0 where
  pub controller : k' ≡ after_scan d x ws k
  pub word : o ≡ output_after d x ws k
  pub right : (p : Program) → Fitting p ws → (k' ≡ scanned d x (instructions p) k) × (o ≡ output_word d x (instructions p) k)
