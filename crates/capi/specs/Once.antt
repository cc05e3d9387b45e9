-- No second answer of the calls for C: the library call has one outcome, and an outcome is told in one way.
use Rattle.meaning.specs.Refusals.{Answer}
use Rattle.std.specs.Prelude.{◌≡◌, ℕ, List, Result}
use Rattle.meaning.specs.declared.Refusal.{Refusal}
use Rattle.std.proofs.Common.{ap, subst}
use Rattle.meaning.specs.Once.{Once}
use Rattle.meaning.proofs.Laws.Once.{two, three, four, five}
use Rattle.meaning.specs.Tables.{Tables}
use Rattle.meaning.specs.Check.{verdict}
use Rattle.meaning.specs.Scan.{Controller as Lent}
use Rattle.meaning.specs.declared.Block.{Block}
use Rattle.check_witness.specs.Shown.{Witnessed}
use Rattle.check_witness.specs.Once.{check_once}
use Rattle.check_witness.specs.declared.Witness.{Witness}
use Rattle.chart_calls.specs.Runs.{ChartRan, one_run}
use Rattle.chart_calls.specs.Steps.{ChartStepped, one_step}
use Rattle.chart_calls.specs.declared.StepSeen.{StepSeen}
use Rattle.write_text.specs.Texts.{ChartWritten, one_text}
use Rattle.write_words.specs.Answers.{WordsWritten, words_written_same}
use Rattle.il_sizes.specs.Told.{SizesTold, sizes_told_same}
use Rattle.il_sizes.specs.declared.Sizes.{Sizes}
use Rattle.read_text.specs.Reads.{TextRead}
use Rattle.read_text.specs.ReadLaws.{text_read_once}
use Rattle.il_run.specs.Runs.{ProgramRan, one_program_run, ProgramScanned, one_program_scan}
use Rattle.roundtrip_call.specs.WrittenRan.{WrittenRan, one_written_run}
use Rattle.roundtrip_call.specs.declared.WrittenRun.{WrittenRun}
use Rattle.c_answers.specs.declared.CAnswer.{CAnswer}
use Rattle.c_answers.specs.declared.CStep.{CStep}
use Rattle.c_answers.specs.declared.CScan.{CScan}
use Rattle.capi.specs.Files.{KindRead, kind_read_same}
use Rattle.il_scan.specs.Scans.{controller_of}
use Rattle.capi.specs.Lengths.{LengthTold}
use Rattle.c_answers.specs.Answers.{Told, WitnessTold, CountTold, StepTold, SizesTell, ScanTold, OutcomeTold}
use Rattle.c_answers.specs.Once.{told_once, tell_once, tell_witness_once, count_told_once, tell_step_once, tell_sizes_once, tell_scan_once, tell_outcome_once}

-- one outcome, told in one way
same_told : {R A : Type 0} (T : R → A → Type 0) → ((r : R) (a b : A) → T r a → T r b → a ≡ b) → {r s : R} {a b : A} → r ≡ s → T r a → T s b → a ≡ b
same_told T told {r} {s} {a} {b} e t u = told s a b (subst (λ z. T z a) e t) u

-- ---- the calls

pub splicetuck_check_once : (c : Tables) → Once (λ a. Told (verdict c) 0 a)
splicetuck_check_once c = tell_once (verdict c)

pub splicetuck_check_witness_once : (c : Tables) → Once (λ a. (w : Witness) × Witnessed c w × WitnessTold w a)
splicetuck_check_witness_once c x y (w, p, t) (v, q, u) = same_told WitnessTold tell_witness_once (check_once c w v p q) t u

pub splicetuck_state_length_once : (c : Tables) → Once (λ a. LengthTold c a)
splicetuck_state_length_once c x y p q = told_once (verdict c) _ x y p q

pub splicetuck_run_chart_once : (c : Tables) (xs l ls os : List ℕ)
    → Once {A = CAnswer × List ℕ × List ℕ × List ℕ} (λ (a, l', ls', os'). (r : Answer) × ChartRan c xs l ls os r l' ls' os' × CountTold r a)
splicetuck_run_chart_once c xs l ls os x y (r, p, t) (s, q, u) =
    let e = one_run c xs l ls os r s _ _ _ _ _ _ p q in four (same_told CountTold count_told_once e.0 t u, e.1, e.2, e.3)

pub splicetuck_step_chart_once : (c : Tables) (w : ℕ) (l : List ℕ) → Once {A = CStep × List ℕ} (λ (a, l'). (r : Result StepSeen Refusal) × ChartStepped c w l r l' × StepTold r a)
splicetuck_step_chart_once c w l x y (r, p, t) (s, q, u) = let e = one_step c w l r s _ _ p q in two (same_told StepTold tell_step_once e.0 t u, e.1)

pub splicetuck_write_once : (c : Tables) (l : List ℕ) → Once {A = CAnswer × List ℕ} (λ (a, m). (r : Answer) × ChartWritten c l r m × CountTold r a)
splicetuck_write_once c l x y (r, p, t) (s, q, u) = let e = one_text c l r s _ _ p q in two (same_told CountTold count_told_once e.0 t u, e.1)

pub splicetuck_write_words_once : (ws l : List ℕ) → Once {A = CAnswer × List ℕ} (λ (a, m). (r : Answer) × WordsWritten ws l r m × CountTold r a)
splicetuck_write_words_once ws l x y (r, p, t) (s, q, u) = let e = words_written_same p q in two (same_told CountTold count_told_once e.0 t u, e.1)

pub splicetuck_read_once : (ts l : List ℕ) → Once {A = CAnswer × List ℕ} (λ (a, m). (r : Answer) × TextRead ts l r m × CountTold r a)
splicetuck_read_once ts l x y (r, p, t) (s, q, u) = let e = text_read_once p q in two (same_told CountTold count_told_once e.0 t u, e.1)

pub splicetuck_read_records_once : (kind : ℕ) (bs out : List ℕ) → Once {A = CAnswer × List ℕ} (λ (a, m). KindRead kind bs out a m)
splicetuck_read_records_once kind bs out x y p q = two (kind_read_same p q)

pub splicetuck_sizes_of_once : (ws : List ℕ) → Once (λ a. (r : Result Sizes Refusal) × SizesTold ws r × SizesTell r a)
splicetuck_sizes_of_once ws x y (r, p, t) (s, q, u) = same_told SizesTell tell_sizes_once (sizes_told_same p q) t u

pub splicetuck_run_program_once : (step : ℕ) (ws fs : List ℕ) (bs : List Block) (xs l : List ℕ)
    → Once {A = CAnswer × List ℕ × List Block × List ℕ} (λ (a, fs', bs', l'). (r : Answer) × ProgramRan step ws xs (controller_of fs bs) l r (controller_of fs' bs') l' × CountTold r a)
splicetuck_run_program_once step ws fs bs xs l x y (r, p, t) (s, q, u) =
    let e = one_program_run p q in
    four (same_told CountTold count_told_once e.0 t u, ap (λ (k : Lent). k.flip_flops) e.1, ap (λ (k : Lent). k.blocks) e.1, e.2)

pub splicetuck_scan_program_once : (step : ℕ) (ws fs : List ℕ) (bs : List Block) (w : ℕ)
    → Once {A = CScan × List ℕ × List Block} (λ (a, fs', bs'). (r : Answer) × ProgramScanned step ws w (controller_of fs bs) r (controller_of fs' bs') × ScanTold r a)
splicetuck_scan_program_once step ws fs bs w x y (r, p, t) (s, q, u) =
    let e = one_program_scan p q in three (same_told ScanTold tell_scan_once e.0 t u, ap (λ (k : Lent). k.flip_flops) e.1, ap (λ (k : Lent). k.blocks) e.1)

pub splicetuck_run_written_once : (c : Tables) (xs l ws ls os : List ℕ)
    → Once {A = CAnswer × List ℕ × List ℕ × List ℕ × List ℕ} (λ (a, l', ws', ls', os'). (r : Result WrittenRun Refusal) × WrittenRan c xs l ws ls os r l' ws' ls' os' × OutcomeTold r a)
splicetuck_run_written_once c xs l ws ls os x y (r, p, t) (s, q, u) =
    let e = one_written_run c xs l ws ls os r s _ _ _ _ _ _ _ _ p q in five (same_told OutcomeTold tell_outcome_once e.0 t u, e.1, e.2, e.3, e.4)
