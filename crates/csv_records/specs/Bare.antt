-- The way over bare numbers: a field at a time, with the same reader and the same stored numbers as byte after byte.
use Rattle.std.specs.Prelude.{◌≡◌, ◌⊎◌, ℕ, suc, ◌+◌, ◌≤◌, ◌<◌, min, Bool, false, ◌&&◌, List, length, drop, get_or, set, ltb}
use Rattle.std.proofs.lemmas.List.Edits.{sets}
use Rattle.csv_field.specs.Field.{most64}
use Rattle.csv_field.specs.declared.FieldPhase.{FieldPhase}
use Rattle.csv_field.specs.declared.FieldPhase.TheVariants.{Number}
use Rattle.csv_value.specs.Decimals.{begins, encoded}
use Rattle.csv_cursor.specs.declared.Reader.{Reader}
use Rattle.csv_bare.specs.declared.BareNumber.{BareNumber}
use Rattle.csv_records.specs.declared.Stand.{Stand}
use Rattle.csv_cursor.specs.Passing.{count_up, reader_with, passed}
use Rattle.csv_records.specs.Automaton.{feed_all, emitted}

-- the reader in another phase
abbrev pub in_phase : Reader → FieldPhase → Reader
in_phase r p = reader_with r p r.record_no r.left r.at

-- a field begins, in a record that may come
abbrev pub ready : Reader → Bool
ready r = ltb r.record_no r.limit && begins r.phase

-- from i to j nothing is stored, and s becomes t
pub record Silent (s t : Reader) (bytes : List ℕ) (i j : ℕ) : Type 0 where
  pub state : feed_all t (drop j bytes) ≡ feed_all s (drop i bytes)
  pub stored : emitted t (drop j bytes) ≡ emitted s (drop i bytes)

-- from i to j s becomes t, and out becomes left
pub record RecordTurn (s t : Reader) (bytes out left : List ℕ) (i j : ℕ) : Type 0 where
  pub state : feed_all t (drop j bytes) ≡ feed_all s (drop i bytes)
  pub stored : sets left t.at (emitted t (drop j bytes)) ≡ sets out s.at (emitted s (drop i bytes))
  pub lengths : length left ≡ length out

-- a reader at the begin of a field comes to a number, whose stored form is the run's
pub record NumberRead (s : Reader) (bytes : List ℕ) (from : ℕ) (u : BareNumber) : Type 0 where
  pub negative : Bool
  pub size : ℕ
  pub value : u.value ≡ encoded negative size
  pub way : Silent s (in_phase s (Number false negative size)) bytes from u.end
  pub on : from < u.end

-- a comma with fields to come, LF with none
abbrev pub InPlace : ℕ → ℕ → Type 0
InPlace left b = ((b ≡ 44) × (0 < left)) ⊎ ((b ≡ 10) × (left ≡ 0))

-- what ends a field whose number stops at end: the byte there, or LF after a CR there
abbrev pub Closes : ℕ → List ℕ → ℕ → ℕ → Type 0
Closes left bytes end last = ((last ≡ end) × InPlace left (get_or bytes end 0)) ⊎ ((last ≡ end + 1) × (get_or bytes end 0 ≡ 13) × (get_or bytes last 0 ≡ 10) × (left ≡ 0))

-- ---- contracts

-- a field that is a bare number, stored, and what stands at u.end ends it
pub record FieldTaken (s : Reader) (bytes : List ℕ) (from : ℕ) (u : BareNumber) : Type 0 where
  pub on : from < u.end
  pub inside : u.end < length bytes
  pub turn : (out : List ℕ) → length out ≤ most64
      → RecordTurn s (passed s (get_or bytes u.end 0) (count_up s.at)) bytes out (set out s.at u.value) from (u.end + 1)

pub record Went (s : Stand) (bytes out : List ℕ) (t : Stand) (left : List ℕ) : Type 0 where
  pub on : s.next ≤ t.next
  pub inside : t.next ≤ length bytes
  pub turn : RecordTurn s.reader t.reader bytes out left s.next t.next

-- a byte on at least, while there is one
pub record WentOn (s : Stand) (bytes out : List ℕ) (t : Stand) (left : List ℕ) : Type 0 where
  pub went : Went s bytes out t left
  pub further : min (suc s.next) (length bytes) ≤ t.next
