-- Where a reader of records stands, and how what ends a field moves it.
use Rattle.std.specs.Prelude.{ℕ, ◌+◌, ◌-◌, Bool, ◌||◌, cond, ltb, eqb}
use Rattle.csv_field.specs.declared.FieldPhase.{FieldPhase}
use Rattle.csv_field.specs.declared.FieldPhase.TheVariants.{Fresh, Empty, Return, Bad}
use Rattle.csv_field.specs.Field.{most64}
use Rattle.csv_cursor.specs.declared.Reader.{Reader}

-- counts stop at the largest
abbrev pub count_up : ℕ → ℕ
count_up n = cond (ltb n most64) (n + 1) n

abbrev pub fresh_reader : ℕ → ℕ → ℕ → ℕ → ℕ → Reader
fresh_reader most below more least limit =
    record { most = most; below = below; more = more; least = least; limit = limit; record_no = 0; left = more; at = 0; phase = Fresh }

abbrev pub reader_with : Reader → FieldPhase → ℕ → ℕ → ℕ → Reader
reader_with r p k left at =
    record { most = r.most; below = r.below; more = r.more; least = r.least; limit = r.limit; record_no = k; left = left; at = at; phase = p }

-- the record is one that does not pass: nothing changes any more
abbrev pub bad : Reader → Reader
bad r = reader_with r Bad r.record_no r.left r.at

-- comma, LF and CR
abbrev pub ends : ℕ → Bool
ends b = eqb b 44 || (eqb b 10 || eqb b 13)

-- a comma with fields to come, the end of the record with none
abbrev pub separator_fits : ℕ → ℕ → Bool
separator_fits left b = cond (eqb b 44) (ltb 0 left) (eqb left 0)

-- the field that b ends is stored
unfoldable pub passed : Reader → ℕ → ℕ → Reader
passed r b at = cond (eqb b 44) (reader_with r Empty r.record_no (r.left - 1) at)
    (cond (eqb b 13) (reader_with r Return r.record_no r.left at) (reader_with r Fresh (count_up r.record_no) r.more at))
