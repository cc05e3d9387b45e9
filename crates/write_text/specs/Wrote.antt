-- The tables whose text the writer writes.
use Rattle.std.specs.Prelude.{◌≡◌, List, ℕ, ℤ}
use Rattle.meaning.specs.Tables.{Tables}
use Rattle.meaning.specs.Rules.{Rules}
use Rattle.tables.specs.Given.{Lent}

-- tables with this output count and these slices, that keep the rules
pub record RuledTables (c : Tables) (n : ℕ) (ss : List ℕ) (ms : List ℤ) (ps ts os : List ℕ) : Type 0 where
  pub outputs : c.outputs ≡ n
  pub lent : Lent c ss ms ps ts os
  pub rules : Rules c
