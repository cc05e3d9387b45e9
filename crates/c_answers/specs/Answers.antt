-- What an answer for C says: document 01's number and place, and the length written.
use Rattle.std.specs.Prelude.{◌≡◌, ℕ, Result, Ok, Err}
use Rattle.meaning.specs.Refusals.{Verdict, Answer, verdict_number, verdict_place, number_of, place_of}
use Rattle.meaning.specs.declared.Refusal.{Refusal}
use Rattle.chart_calls.specs.declared.StepSeen.{StepSeen}
use Rattle.il_sizes.specs.declared.Sizes.{Sizes}
use Rattle.roundtrip_call.specs.declared.WrittenRun.{WrittenRun}
use Rattle.check_witness.specs.declared.Witness.{Witness}
use Rattle.c_answers.specs.declared.CAnswer.{CAnswer}
use Rattle.c_answers.specs.declared.CWitness.{CWitness}
use Rattle.c_answers.specs.declared.CStep.{CStep}
use Rattle.c_answers.specs.declared.CScan.{CScan}
use Rattle.c_answers.specs.declared.ControllerSizes.{ControllerSizes}

pub record Told (v : Verdict) (n : ℕ) (a : CAnswer) : Type 0 where
  pub number : a.number ≡ verdict_number v
  pub place : a.place ≡ verdict_place v
  pub length : a.length ≡ n

-- a check with a witness tells its verdict, and what is shown
pub record WitnessTold (w : Witness) (a : CWitness) : Type 0 where
  pub number : a.number ≡ verdict_number w.verdict
  pub place : a.place ≡ verdict_place w.verdict
  pub earlier : a.earlier ≡ w.earlier
  pub state : a.state ≡ w.state
  pub inputs_on : a.inputs_on ≡ w.on.inputs
  pub inputs_off : a.inputs_off ≡ w.off.inputs
  pub timers_on : a.timers_on ≡ w.on.timers
  pub timers_off : a.timers_off ≡ w.off.timers

-- how many scans were done, bytes written or words read
abbrev pub CountTold : Answer → CAnswer → Type 0
CountTold (Ok n) a = Told (Ok tt) n a
CountTold (Err r) a = Told (Err r) 0 a

-- a text that was written, read back and run tells its length
abbrev pub OutcomeTold : Result WrittenRun Refusal → CAnswer → Type 0
OutcomeTold (Ok o) a = Told (Ok tt) o.text a
OutcomeTold (Err r) a = Told (Err r) 0 a

-- what is seen after one scan, or why there was none
pub record StepGiven (n p l o : ℕ) (a : CStep) : Type 0 where
  pub number : a.number ≡ n
  pub place : a.place ≡ p
  pub leaf : a.leaf ≡ l
  pub outputs : a.outputs ≡ o

abbrev pub StepTold : Result StepSeen Refusal → CStep → Type 0
StepTold (Ok s) a = StepGiven 0 0 s.leaf s.outputs a
StepTold (Err r) a = StepGiven (number_of r) (place_of r) 0 0 a

-- the output word of a scan, or why there is none
pub record ScanGiven (n p o : ℕ) (a : CScan) : Type 0 where
  pub number : a.number ≡ n
  pub place : a.place ≡ p
  pub outputs : a.outputs ≡ o

abbrev pub ScanTold : Answer → CScan → Type 0
ScanTold (Ok w) a = ScanGiven 0 0 w a
ScanTold (Err r) a = ScanGiven (number_of r) (place_of r) 0 a

-- the sizes of a controller, or why there are none
pub record SizesGiven (n p f b : ℕ) (a : ControllerSizes) : Type 0 where
  pub number : a.number ≡ n
  pub place : a.place ≡ p
  pub flip_flops : a.flip_flops ≡ f
  pub blocks : a.blocks ≡ b

abbrev pub SizesTell : Result Sizes Refusal → ControllerSizes → Type 0
SizesTell (Ok s) a = SizesGiven 0 0 s.flip_flops s.blocks a
SizesTell (Err r) a = SizesGiven (number_of r) (place_of r) 0 0 a
