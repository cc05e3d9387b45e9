-- What the move needs is put into its words, which are those of one move more.
use Rattle.check_needs.specs.WordsLaws.{words_more}
use Rattle.check_literals.proofs.literal_passes.Goals as goal

pub returns-in-Some-clause-value : goal.returns-in-Some-clause-value
returns-in-Some-clause-value c c' p q e =
    let a = c.args in
    let f = c.in-Some.ensures c' p q e in
    (f.0, λ z h t. rw (c.put_needs.ensures.0 h) (words_more c' a.words.now a.i c.in-Some.needs h f.1 t))
