-- What the check with a witness promises.
use Rattle.meaning.specs.Refusals.{Verdict}
use Rattle.std.specs.Prelude.{◌≡◌, ◌≢◌, ℕ, ◌^◌, ◌<◌, Err}
use Rattle.meaning.specs.Tables.{Tables}
use Rattle.meaning.specs.Needs.{both_on, both_off, lower}
use Rattle.meaning.specs.Check.{verdict}
use Rattle.meaning.specs.Check as K
use Rattle.meaning.specs.declared.Refusal.TheVariants as R
use Rattle.check_needs.specs.declared.ThingWords.{ThingWords}
use Rattle.check_needs.specs.Words.{InWords}
use Rattle.check_witness.specs.declared.Witness.{Witness}

-- words of 64 bits, so that their numbers leave no choice
pub record InSixtyFour (w : ThingWords) : Type 0 where
  pub inputs : w.inputs < 2 ^ 64
  pub timers : w.timers < 2 ^ 64

-- of an OVERLAP at move i: the earlier move, the lower source, and what the two moves together need on and need off
pub record OverlapShown (c : Tables) (i : ℕ) (r : Witness) : Type 0 where
  pub earlier : r.earlier ≡ K.earlier c i
  pub state : r.state ≡ lower c (K.earlier c i) i
  pub on : InWords r.on (both_on c (K.earlier c i) i)
  pub off : InWords r.off (both_off c (K.earlier c i) i)
  pub on_small : InSixtyFour r.on
  pub off_small : InSixtyFour r.off

-- the same, with the verdict
pub record OverlapFound (c : Tables) (i : ℕ) (r : Witness) : Type 0 where
  pub answer : r.verdict ≡ Err (R.Overlap i)
  pub shown : OverlapShown c i r

-- of anything else
abbrev pub no_witness : Verdict → Witness
no_witness v = record {
  verdict = v;
  earlier = 0;
  state = 0;
  on = record { inputs = 0; timers = 0 };
  off = record { inputs = 0; timers = 0 };
}

pub record Witnessed (c : Tables) (r : Witness) : Type 0 where
  pub answer : r.verdict ≡ verdict c
  pub overlap : (i : ℕ) → verdict c ≡ Err (R.Overlap i) → OverlapShown c i r
  pub other : ((i : ℕ) → verdict c ≢ Err (R.Overlap i)) → r ≡ no_witness (verdict c)
