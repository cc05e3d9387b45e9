-- No second answer of any function of this crate, nor of two of its definitions.
use Rattle.std.specs.Prelude.{◌≡◌, ℕ}
use Rattle.meaning.specs.Once.{Once}
use Rattle.meaning.proofs.Laws.Once.{is_once}
use Rattle.csv_field.specs.declared.FieldPhase.{FieldPhase}
use Rattle.csv_cursor.specs.declared.Reader.{Reader}
use Rattle.csv_cursor.specs.Passing.{count_up, fresh_reader, reader_with, bad, ends, separator_fits, passed}

pub frame_once : Once (λ r. r ≡ fresh_reader 4294967295 0 2 1 1)
frame_once = is_once (fresh_reader 4294967295 0 2 1 1)

pub states_once : Once (λ r. r ≡ fresh_reader 65535 0 1 0 18446744073709551615)
states_once = is_once (fresh_reader 65535 0 1 0 18446744073709551615)

pub moves_once : Once (λ r. r ≡ fresh_reader 32767 32768 10 0 18446744073709551615)
moves_once = is_once (fresh_reader 32767 32768 10 0 18446744073709551615)

pub presets_once : Once (λ r. r ≡ fresh_reader 4294967295 0 0 0 18446744073709551615)
presets_once = is_once (fresh_reader 4294967295 0 0 0 18446744073709551615)

pub pairs_once : Once (λ r. r ≡ fresh_reader 65535 0 1 0 18446744073709551615)
pairs_once = is_once (fresh_reader 65535 0 1 0 18446744073709551615)

pub scans_once : Once (λ r. r ≡ fresh_reader 18446744073709551615 0 0 0 4096)
scans_once = is_once (fresh_reader 18446744073709551615 0 0 0 4096)

-- no second answer meets the definition
pub reader_with_once : (r : Reader) (p : FieldPhase) (k left at : ℕ) → Once (λ s. s ≡ reader_with r p k left at)
reader_with_once r p k left at = is_once (reader_with r p k left at)

pub fail_once : (r : Reader) → Once (λ s. s ≡ bad r)
fail_once r = is_once (bad r)

-- no second answer meets the definition
pub one_more_once : (n : ℕ) → Once (λ r. r ≡ count_up n)
one_more_once n = is_once (count_up n)

pub is_end_once : (b : ℕ) → Once (λ t. t ≡ ends b)
is_end_once b = is_once (ends b)

pub in_place_once : (left b : ℕ) → Once (λ t. t ≡ separator_fits left b)
in_place_once left b = is_once (separator_fits left b)

pub pass_once : (r : Reader) (b at : ℕ) → Once (λ s. s ≡ passed r b at)
pass_once r b at = is_once (passed r b at)
