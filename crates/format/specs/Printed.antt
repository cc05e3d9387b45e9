-- What the program prints, as a function of the bytes of its seven files.
use Rattle.meaning.specs.Refusals.{Verdict}
use Rattle.std.specs.Prelude.{ℕ, suc, max, true, false, ◌&&◌, List, [], ◌∷◌}
use Rattle.std.specs.Prelude.{◌++◌, map, length, get_or, leb, ltb, eqb, Ok, Err}
use Rattle.std.specs.Prelude.{nat_abs}
use Rattle.meaning.specs.Refusals.{number_of, place_of}
use Rattle.meaning.specs.Tables.{Tables, state_row, move_row, pair_row}
use Rattle.meaning.specs.Check.{Check, checks, verdict_of}
use Rattle.meaning.specs.Machine.{Seen, start_state, trace}
use Rattle.meaning.specs.Written.{program}
use Rattle.meaning.specs.declared.Refusal.{Refusal}
use Rattle.meaning.specs.declared.Refusal.TheVariants as R
use Rattle.format.specs.Text.{bytes, decimal, line, text}
use Rattle.format.specs.Places.{room}
use Rattle.format.specs.Records.{Column, records, record_passes, numbers}

-- in the order of reading; "a missing one is empty"
pub record Files : Type 0 where
  pub frame : List ℕ
  pub states : List ℕ
  pub moves : List ℕ
  pub presets : List ℕ
  pub timer_pairs : List ℕ
  pub output_pairs : List ℕ
  pub scans : List ℕ

abbrev pub unsigned : ℕ → Column
unsigned n = record { signed = false; bits = n }

abbrev pub signed16 : Column
signed16 = record { signed = true; bits = 16 }

abbrev pub most_scans : ℕ
most_scans = 4096

abbrev pub most_text : ℕ
most_text = 65536

unfoldable pub record_at : List ℕ → ℕ → List ℕ
record_at bs i = get_or (records bs) i []

-- the check of a file whose records have n fields of type t
unfoldable pub file_check : Column → ℕ → List ℕ → Check
file_check t n bs = record {
  refusal = R.Field;
  rows = length (records bs);
  passes = λ i. record_passes t n (record_at bs i);
}

-- "frame.csv has one record: none is FIELD at 0, a second FIELD at 1."
unfoldable pub frame_check : List ℕ → Check
frame_check bs = record {
  refusal = R.Field;
  rows = max 1 (length (records bs));
  passes = λ i. eqb i 0 && record_passes (unsigned 32) 3 (record_at bs i);
}

-- "scans.csv has at most 4,096: more is FIELD at 4,096."
unfoldable pub scans_file_check : List ℕ → Check
scans_file_check bs = record {
  refusal = R.Field;
  rows = length (records bs);
  passes = λ i. ltb i most_scans && record_passes (unsigned 64) 1 (record_at bs i);
}

abbrev pub states_file_check : List ℕ → Check
states_file_check bs = file_check (unsigned 16) state_row bs

abbrev pub moves_file_check : List ℕ → Check
moves_file_check bs = file_check signed16 move_row bs

abbrev pub presets_file_check : List ℕ → Check
presets_file_check bs = file_check (unsigned 32) 1 bs

-- timer pairs and output pairs
abbrev pub pairs_file_check : List ℕ → Check
pairs_file_check bs = file_check (unsigned 16) pair_row bs

-- "FIELD comes before all, file by file in the order of the program section."
unfoldable pub field_checks : Files → List Check
field_checks f = frame_check f.frame ∷ states_file_check f.states ∷ moves_file_check f.moves
    ∷ presets_file_check f.presets ∷ pairs_file_check f.timer_pairs
    ∷ pairs_file_check f.output_pairs ∷ scans_file_check f.scans ∷ []

unfoldable pub naturals : List ℕ → List ℕ
naturals bs = map nat_abs (numbers bs)

-- "frame.csv (step, inputs, outputs, 32 bits each)"
unfoldable pub tables : Files → Tables
tables f = record {
  scan_step = get_or (naturals f.frame) 0 0;
  inputs = get_or (naturals f.frame) 1 0;
  outputs = get_or (naturals f.frame) 2 0;
  states = naturals f.states;
  moves = numbers f.moves;
  presets = naturals f.presets;
  timer_pairs = naturals f.timer_pairs;
  output_pairs = naturals f.output_pairs;
}

unfoldable pub chart_text : Tables → List ℕ
chart_text c = text (program c)

-- 12 ROOM: "result slice too short", with the text's length as `room` gives it, where there is room for n bytes
unfoldable pub room_check : Tables → ℕ → Check
room_check c n = record {
  refusal = λ p. R.Room (room (length (chart_text c)));
  rows = 1;
  passes = λ i. leb (length (chart_text c)) n;
}

-- "A text above 65,536 bytes is ROOM here."
unfoldable pub printed_verdict : Files → Verdict
printed_verdict f = verdict_of (field_checks f ++ (checks (tables f) ++ (room_check (tables f) most_text ∷ [])))

unfoldable pub comma : List ℕ → List ℕ → List ℕ
comma a b = a ++ (44 ∷ b)

-- "a line a scan: scan from 1, leaf, outputs as a number"
unfoldable pub scan_lines : ℕ → List Seen → List ℕ
scan_lines n [] = []
scan_lines n (s ∷ ss) =
    line (comma (decimal n) (comma (decimal s.leaf) (decimal s.outputs))) ++ scan_lines (suc n) ss

-- "On refusal only "REFUSED,number,place"."
unfoldable pub refusal_line : Refusal → List ℕ
refusal_line r = line (comma (bytes "REFUSED") (comma (decimal (number_of r)) (decimal (place_of r))))

unfoldable pub printed_as : Files → Verdict → List ℕ
printed_as f (Ok tt) =
    chart_text (tables f) ++ scan_lines 1 (trace (tables f) (start_state (tables f)) (naturals f.scans))
printed_as f (Err r) = refusal_line r

unfoldable pub printed : Files → List ℕ
printed f = printed_as f (printed_verdict f)
