-- A test for an input or a timer, for anything else none.
use Rattle.std.proofs.Math.Logic.{inl, inr}
use native.Mathlib.Omega.{arith}
use Rattle.meaning.specs.Written.{kind_test}
use Rattle.write_bits.specs.SentLaws.{sent_none}
use Rattle.write_bits.proofs.put_kind.Goals as goal

pub returns-in-Input : goal.returns-in-Input
unfolding kind_test
returns-in-Input c c' = rw c.in-Input.is c.put_input.ensures

pub returns-in-Timer : goal.returns-in-Timer
unfolding kind_test
returns-in-Timer c c' = rw c.in-Timer.is c.put_expired.ensures

pub returns-in-Unused : goal.returns-in-Unused
unfolding kind_test
returns-in-Unused c c' =
    elim c.in-Unused.is [ inl e ↦ rw e (sent_none _ _ (omega arith) (omega arith)) | inr e ↦ rw e (sent_none _ _ (omega arith) (omega arith)) ]
