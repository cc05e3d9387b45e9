-- One bit more is the next bit of the code.
use mathlib.Core.Path.{sym, ap, ◌∙◌}
use Prim.Native.Nat.{◌/◌}
use native.Mathlib.Nat.{div-div-eq-div-mul, pow-suc, div-one}
use native.Mathlib.Numerals.{add-one}
use native.Mathlib.Omega.{arith}
use Rattle.meaning.specs.Written.{bits_from}
use Rattle.write_bits.specs.Sent.{bit_at}
use Rattle.write_bits.specs.SentLaws.{sent_sent, sent_none, bits_snoc}
use Rattle.write_bits.proofs.put_bits.Goals as goal

pub loop-i-init : goal.loop-i-init
unfolding bits_from
loop-i-init c = (sym (div-one _), λ h. sent_none _ _ (omega arith) (omega arith))

pub loop-i-preserved : goal.loop-i-preserved
loop-i-preserved c =
    let b = c.loop-i in
    let a = c.args in
    let put = rw (b.invariant.0, c.from.ensures, c.from-in-loop-i.ensures, c.from-in-loop-i-2.ensures) at c.put_bit-p.ensures in (
      rw (add-one b.i, pow-suc 2 b.i) (ap (λ n. n / 2) b.invariant.0 ∙ div-div-eq-div-mul _ _ _),
      λ h. rw (add-one b.i, bits_snoc (bit_at a.base) a.first b.i a.code)
          (sent_sent (b.invariant.1 h) (put (omega arith))),
    )
