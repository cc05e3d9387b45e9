-- What the check refuses is refused; on what it accepts the rules hold.
use mathlib.Core.Path.{refl, sym, ◌∙◌}
use Rattle.meaning.proofs.Laws.Verdict.{accepted_exactly}
use Rattle.write_text.specs.Texts.{accepted_tables}
use Rattle.write_text.proofs.write.Goals as goal

pub returns : goal.returns
returns c =
    let e = sym c.check.ensures ∙ c.in_ok-check.was in
    accepted_tables _ _ _ _ e (c.write_checked.ensures _
    (record {
      outputs = refl;
      lent = record { states = refl; moves = refl; presets = refl; timer_pairs = refl; output_pairs = refl };
      rules = (accepted_exactly _).0 e;
    }))
