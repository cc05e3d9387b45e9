-- No second answer of any function of this crate: those over a row, the run of a program, one scan of it.
use Rattle.meaning.specs.Refusals.{Answer}
use Rattle.std.specs.Prelude.{◌≡◌, Bool, List, ℕ, length}
use Rattle.std.proofs.Common.{sym, ◌∙◌, ap}
use Rattle.meaning.specs.Once.{Once}
use Rattle.meaning.proofs.Laws.Once.{three, four, is_once}
use Rattle.meaning.specs.declared.Block.{Block}
use Rattle.il_times.specs.Sizes.{rungs_in, no_rungs}
use Rattle.il_run.specs.declared.ArrayScanned.{ArrayScanned}
use Rattle.il_scan.specs.Scans.{controller_of, OneScan}
use Rattle.il_run.specs.Row.{in_time, RowRun}
use Rattle.meaning.specs.Scan.{Controller}
use Rattle.il_run.specs.Runs.{ProgramRan, one_program_run, ProgramScanned, one_program_scan}

pub in_time_once : (bs : List Block) (ws : List ℕ) → Once (λ r. r ≡ in_time 0 bs (rungs_in ws no_rungs).times Bool.true)
in_time_once bs ws = is_once (in_time 0 bs (rungs_in ws no_rungs).times Bool.true)

pub scan_array_once : (ws : List ℕ) (step x : ℕ) (fs : List ℕ) (row : List Block)
    → Once {A = ArrayScanned × List ℕ} (λ (r, m). OneScan step x ws (controller_of fs row) (controller_of m r.blocks) r.outputs)
scan_array_once ws step x fs row u v p q =
    let e : controller_of u.1 u.0.blocks ≡ controller_of v.1 v.0.blocks = p.controller ∙ sym q.controller in
    let o = p.word ∙ sym q.word in
    λ i. (record { blocks = (e i).blocks; outputs = o i }, (e i).flip_flops)

pub run_once : (ws : List ℕ) (step : ℕ) (xs l fs : List ℕ) (bs : List Block)
    → Once {A = ℕ × List ℕ × List ℕ × List Block} (λ (r, l', fs', bs'). RowRun step ws xs fs bs l fs' bs' l' × (r ≡ length xs))
run_once ws step xs l fs bs u v p q =
    four (p.1 ∙ sym q.1, p.0.results ∙ sym q.0.results, p.0.flip_flops ∙ sym q.0.flip_flops, p.0.blocks ∙ sym q.0.blocks)

pub run_program_once : (step : ℕ) (ws fs : List ℕ) (bs : List Block) (xs l : List ℕ)
    → Once {A = Answer × List ℕ × List Block × List ℕ} (λ (r, fs', bs', l'). ProgramRan step ws xs (controller_of fs bs) l r (controller_of fs' bs') l')
run_program_once step ws fs bs xs l x y p q =
    let e = one_program_run p q in four (e.0, ap (λ (k : Controller). k.flip_flops) e.1, ap (λ (k : Controller). k.blocks) e.1, e.2)

pub scan_program_once : (step : ℕ) (ws fs : List ℕ) (bs : List Block) (x : ℕ)
    → Once {A = Answer × List ℕ × List Block} (λ (r, fs', bs'). ProgramScanned step ws x (controller_of fs bs) r (controller_of fs' bs'))
scan_program_once step ws fs bs w x y p q =
    let e = one_program_scan p q in three (e.0, ap (λ (k : Controller). k.flip_flops) e.1, ap (λ (k : Controller). k.blocks) e.1)
