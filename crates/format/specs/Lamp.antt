-- The Lamp chart of document 01: its text, and what the program prints for its seven files. proofs/Laws/Lamp.antt
-- proves it.
use Rattle.std.specs.Prelude.{◌≡◌, ℕ, List, ◌++◌}
use Rattle.meaning.specs.Cases.{lamp}
use Rattle.format.specs.Text.{bytes}
use Rattle.format.specs.Printed.{Files, tables, chart_text, printed}

-- as document 01 prints it
unfoldable pub lamp_text : List ℕ
lamp_text =
    bytes "PROGRAM CHART\nVAR\nT1 : TON;\nEND_VAR\nLD %MX0\nST T1.IN\nLD T#250ms\nST T1.PT\nCAL T1\nLDN %MX0\nAND %IX1\nS %MX1\nLD %MX0\nAND %IX2\nAND T1.Q\nR %MX1\nLD %MX1\nST %MX0\nLD %MX0\nST %QX1\nEND_PROGRAM\n"

unfoldable pub lamp_files : Files
lamp_files = record {
  frame = bytes "100,2,1\n";
  states = bytes "0,1\n0,0\n0,0\n";
  moves = bytes "1,2,0,1,0,0,0,0,0,0,0\n2,1,0,2,101,0,0,0,0,0,0\n";
  presets = bytes "250\n";
  timer_pairs = bytes "1,2\n";
  output_pairs = bytes "1,2\n";
  scans = bytes "1\n2\n2\n2\n2\n";
}

pub record Lamp : Type 0 where
  pub text : chart_text lamp ≡ lamp_text
  pub read : tables lamp_files ≡ lamp
  pub printing : printed lamp_files ≡ lamp_text ++ bytes "1,2,1\n2,2,1\n3,2,1\n4,2,1\n5,1,0\n"
