-- To compute on written-out charts and files, as Laws/Compute.antt of the crate below.
use Rattle.std.specs.Prelude.{ℕ}
use Rattle.meaning.proofs.Laws.Compute.{compute}
use Rattle.format.specs.Words.{operand_number, word, words}
use Rattle.format.specs.Text.{digits, decimal, operand_text, operator_text, line, block_line, declarations, text}
use Rattle.format.specs.Places.{room}
use Rattle.format.specs.Records.{front, pieces, without_cr, ended_records, records, content, fields, same, spelt}
use Rattle.format.specs.Records.{decimal_within, negative, decimal_fits, field_value, record_passes, numbers}
use Rattle.format.specs.Printed.{record_at, file_check, frame_check, scans_file_check, field_checks, naturals, tables}
use Rattle.format.specs.Printed.{chart_text, room_check, printed_verdict, comma, scan_lines, refusal_line, printed_as}
use Rattle.format.specs.Printed.{printed}
use Rattle.format.specs.NeedsTable.{names_of, thing_names, spaced, things_text, upward, needs_line, needs_table}
use Rattle.format.specs.NeedsTable.{overlap_line, needs_known, needs_page, needs_verdict, needs_printed}

unfoldable pub compute_all : ℕ
unfolding compute operand_number word words digits decimal operand_text operator_text line block_line declarations text
    room front pieces without_cr ended_records records content fields same spelt decimal_within negative decimal_fits
    field_value record_passes numbers record_at file_check frame_check scans_file_check field_checks naturals tables
    chart_text room_check printed_verdict comma scan_lines refusal_line printed_as printed
    names_of thing_names spaced things_text upward needs_line needs_table overlap_line needs_known needs_page needs_verdict
    needs_printed
compute_all = 0
