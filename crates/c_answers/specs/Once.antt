-- No second answer of any conversion of this crate: an outcome is told in one way.
use Rattle.std.specs.Prelude.{◌≡◌, ℕ, leb, Result, Ok, Err}
use Rattle.std.proofs.Common.{sym, ◌∙◌}
use Rattle.meaning.specs.Once.{Once}
use Rattle.meaning.proofs.Laws.Once.{is_once}
use Rattle.meaning.specs.Refusals.{Verdict, Answer, number_of, place_of}
use Rattle.meaning.specs.declared.Refusal.{Refusal}
use Rattle.chart_calls.specs.declared.StepSeen.{StepSeen}
use Rattle.il_sizes.specs.declared.Sizes.{Sizes}
use Rattle.roundtrip_call.specs.declared.WrittenRun.{WrittenRun}
use Rattle.csv_file.specs.declared.FileRead.{FileRead}
use Rattle.check_witness.specs.declared.Witness.{Witness}
use Rattle.c_answers.specs.Answers.{Told, WitnessTold, CountTold, StepGiven, StepTold, SizesGiven, SizesTell, ScanGiven, ScanTold, OutcomeTold}
use Rattle.c_answers.specs.Files.{file_of, RecordsTold}

-- ---- number, place and length

pub told_once : (v : Verdict) (n : ℕ) → Once (λ a. Told v n a)
told_once v n a b p q = λ i. record {
  number = (p.number ∙ sym q.number) i;
  place = (p.place ∙ sym q.place) i;
  length = (p.length ∙ sym q.length) i;
}

pub refused_once : (r : Refusal) → Once (λ a. Told (Err r) 0 a)
refused_once r = told_once (Err r) 0

pub accepted_once : (n : ℕ) → Once (λ a. Told (Ok tt) n a)
accepted_once n = told_once (Ok tt) n

pub tell_once : (v : Verdict) → Once (λ a. Told v 0 a)
tell_once v = told_once v 0

pub tell_witness_once : (w : Witness) → Once (λ a. WitnessTold w a)
tell_witness_once w a b p q = λ i. record {
  number = (p.number ∙ sym q.number) i;
  place = (p.place ∙ sym q.place) i;
  earlier = (p.earlier ∙ sym q.earlier) i;
  state = (p.state ∙ sym q.state) i;
  inputs_on = (p.inputs_on ∙ sym q.inputs_on) i;
  inputs_off = (p.inputs_off ∙ sym q.inputs_off) i;
  timers_on = (p.timers_on ∙ sym q.timers_on) i;
  timers_off = (p.timers_off ∙ sym q.timers_off) i;
}

pub count_told_once : (r : Answer) → Once (λ a. CountTold r a)
count_told_once (Ok n) = accepted_once n
count_told_once (Err q) = refused_once q

pub tell_outcome_once : (o : Result WrittenRun Refusal) → Once (λ a. OutcomeTold o a)
tell_outcome_once (Ok o) = accepted_once o.text
tell_outcome_once (Err q) = refused_once q

pub is_file_once : (kind : ℕ) → Once (λ r. r ≡ leb kind 6)
is_file_once kind = is_once (leb kind 6)

pub file_of_once : (kind : ℕ) → Once (λ f. f ≡ file_of kind)
file_of_once kind = is_once (file_of kind)

pub tell_records_once : (r : Result FileRead Refusal) → Once (λ a. RecordsTold r a)
tell_records_once (Ok f) = accepted_once f.numbers
tell_records_once (Err q) = refused_once q

-- ---- one scan, and sizes

same_step : (n p l o : ℕ) → Once (λ a. StepGiven n p l o a)
same_step n p l o a b x y = λ i. record {
  number = (x.number ∙ sym y.number) i;
  place = (x.place ∙ sym y.place) i;
  leaf = (x.leaf ∙ sym y.leaf) i;
  outputs = (x.outputs ∙ sym y.outputs) i;
}

pub tell_step_once : (s : Result StepSeen Refusal) → Once (λ a. StepTold s a)
tell_step_once (Ok s) = same_step 0 0 s.leaf s.outputs
tell_step_once (Err r) = same_step (number_of r) (place_of r) 0 0

same_scan : (n p o : ℕ) → Once (λ a. ScanGiven n p o a)
same_scan n p o a b x y = λ i. record {
  number = (x.number ∙ sym y.number) i;
  place = (x.place ∙ sym y.place) i;
  outputs = (x.outputs ∙ sym y.outputs) i;
}

pub tell_scan_once : (r : Answer) → Once (λ a. ScanTold r a)
tell_scan_once (Ok w) = same_scan 0 0 w
tell_scan_once (Err q) = same_scan (number_of q) (place_of q) 0

same_sizes : (n p f b : ℕ) → Once (λ a. SizesGiven n p f b a)
same_sizes n p f b a c x y = λ i. record {
  number = (x.number ∙ sym y.number) i;
  place = (x.place ∙ sym y.place) i;
  flip_flops = (x.flip_flops ∙ sym y.flip_flops) i;
  blocks = (x.blocks ∙ sym y.blocks) i;
}

pub tell_sizes_once : (s : Result Sizes Refusal) → Once (λ a. SizesTell s a)
tell_sizes_once (Ok s) = same_sizes 0 0 s.flip_flops s.blocks
tell_sizes_once (Err r) = same_sizes (number_of r) (place_of r) 0 0
