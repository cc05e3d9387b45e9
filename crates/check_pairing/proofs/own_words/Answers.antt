-- A word with no number has none of the first 0 rows; one row more is one number more.
use Rattle.std.proofs.Common.{refl, ap, ◌∙◌, arith, add-one}
use Rattle.meaning.specs.Rows.{some}
use Rattle.meaning.proofs.Laws.Rows.{some_more}
use Rattle.meaning.specs.Literals.{input_on}
use Rattle.meaning.proofs.Laws.Bits.{no_bit}
use Rattle.check_pairing.specs.Words.{row_at}
use Rattle.check_pairing.proofs.own_words.Goals as goal

pub loop-i-init : goal.loop-i-init
unfolding some
loop-i-init c = (refl, λ z n l h k g. ap (λ w. input_on w n) (z l) ∙ no_bit n)

pub loop-i-preserved : goal.loop-i-preserved
loop-i-preserved c =
    let b = c.loop-i in
    let f = c.add_row in (
      f.auto.words ∙ b.invariant.0,
      λ z n l h k g. rw (add-one, some_more (row_at c.args.pairs.now n l) b.i, ← b.invariant.1 z n l h k g) (f.ensures n l h k (omega (arith, b.invariant.0))),
    )
