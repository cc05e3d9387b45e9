-- Document 01's worked charts, computed from the definitions.
use Rattle.std.specs.Prelude.{refl}
use Rattle.meaning.proofs.Laws.Compute.{compute}
use Rattle.meaning.specs.Cases.{move, lamp, nested, returning, overlapping, three, seen_as, leaves_of, Cases}

pub cases : Cases
unfolding compute lamp move nested returning overlapping three seen_as leaves_of
cases = record
    { a_accepted = refl; a = refl; a_read = refl; b = refl; c = refl; d = refl; e_accepted = refl; e = refl; e_read = refl; f = refl; f_read = refl; g = refl; h = refl }
