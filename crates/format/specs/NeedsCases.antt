-- What --needs prints for the Lamp's files, and the page of the charts of document 01's cases (e) and (g).
-- proofs/Laws/NeedsCases.antt proves it.
use Rattle.std.specs.Prelude.{◌≡◌, ℕ, List, ◌++◌}
use Rattle.meaning.specs.Tables.{Tables}
use Rattle.meaning.specs.Cases.{returning, overlapping}
use Rattle.meaning.specs.Check.{verdict}
use Rattle.format.specs.Text.{bytes}
use Rattle.format.specs.NeedsTable.{needs_page, needs_printed}
use Rattle.format.specs.Lamp.{lamp_files}

-- the first line of every table
unfoldable pub needs_head : List ℕ
needs_head = bytes "move,source and above,target,needs on,needs off\n"

abbrev pub page_of : Tables → List ℕ
page_of c = needs_page c (verdict c)

pub record NeedsCases : Type 0 where
  pub lamp : needs_printed lamp_files ≡ needs_head ++ bytes "0,1 0,2,%IX1,-\n1,2 0,1,%IX2 T1.Q,-\nACCEPTED\n"
  -- moves 0 and 1 clash at input 2; the sources 3 and 2 of moves 0 and 2 are apart, as are 1 and 2
  pub e : page_of returning
      ≡ needs_head ++ bytes "0,3 1 0,4,%IX1,%IX2\n1,1 0,2,%IX2,-\n2,2 0,1,-,%IX2\nACCEPTED\n"
  -- source 1 is above source 3, and nothing meets: with inputs 1 and 2 on both moves are enabled in state 3
  pub g : page_of overlapping
      ≡ needs_head ++ bytes "0,1 0,2,%IX2,-\n1,3 1 0,4,%IX1,-\nOVERLAP 0 1,3,-,%IX1 %IX2,-\nREFUSED,10,1\n"
