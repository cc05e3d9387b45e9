-- The Lamp chart of document 01, computed from the definitions.
use Rattle.std.specs.Prelude.{refl}
use Rattle.meaning.specs.Cases.{move, lamp}
use Rattle.format.proofs.Laws.Compute.{compute_all}
use Rattle.format.specs.Lamp.{lamp_text, lamp_files, Lamp}

pub the_lamp : Lamp
unfolding compute_all move lamp lamp_text lamp_files
the_lamp = record { text = refl; read = refl; printing = refl }
