-- No second answer of any function of this crate. Of where a scan begins, the place and what runs are seen: `advance`
-- reads nothing else of it.
use Rattle.std.specs.Prelude.{◌≡◌, Bool, List, ℕ, length, drop}
use Rattle.std.proofs.Common.{sym, ◌∙◌}
use Rattle.meaning.specs.Once.{Once, OnceSeen}
use Rattle.meaning.proofs.Laws.Once.{two, three, is_once}
use Rattle.meaning.specs.declared.Block.{Block}
use Rattle.il_instruction.specs.declared.Registers.{Registers}
use Rattle.il_scan.specs.declared.Stop.{Stop}
use Rattle.il_scan.specs.Run.{advanced, resumed, fresh_registers}
use Rattle.il_scan.specs.Advance.{StopKnown}
use Rattle.il_scan.specs.Row.{RowScan}

pub scan_once : (ws : List ℕ) (step x : ℕ) (fs : List ℕ) (bs : List Block) → Once {A = ℕ × List ℕ × List Block} (λ (r, fs', bs'). RowScan step x ws fs bs fs' bs' r)
scan_once ws step x fs bs u v p q = three (p.outputs ∙ sym q.outputs, p.flip_flops ∙ sym q.flip_flops, p.blocks ∙ sym q.blocks)

pub advance_once : (ws fs : List ℕ) (x n : ℕ) (s : Stop)
    → Once {A = Stop × List ℕ} (λ (r, m). (r ≡ (advanced x n (drop s.at ws) s.at s.running fs).stop)
    × (m ≡ (advanced x n (drop s.at ws) s.at s.running fs).flip_flops) × StopKnown n (length ws) s.at r)
advance_once ws fs x n s u v p q = two (p.0 ∙ sym q.0, p.1 ∙ sym q.1)

pub resume_once : (s : Stop) (q : Bool) → Once (λ r. r ≡ resumed s q)
resume_once s q = is_once (resumed s q)

pub begin_once : (qs : ℕ)
    → OnceSeen {A = Stop} {B = ℕ × Registers} (λ r. (r.at, r.running))
    (λ r. (r.at ≡ 0) × (r.running ≡ fresh_registers qs))
begin_once qs x y p q = two (p.0 ∙ sym q.0, p.1 ∙ sym q.1)

pub outputs_once : (t : Stop) → Once (λ r. r ≡ t.running.outputs)
outputs_once t = is_once t.running.outputs
