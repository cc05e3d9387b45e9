use mir.Facts.{to_z-of_z}
use lib.IntN.{nat_abs}
use Rattle.meaning.specs.Literals.{kind_of}
use mathlib.Core.Path.{ap, ◌∙◌}
use Rattle.tables.proofs.kind.Goals as goal

pub returns : goal.returns
returns c =
    let f = to_z-of_z c.ranges.v in
    c.kind_of.ensures ∙ ap kind_of (c.size.ensures ∙ ap nat_abs f)
