-- No second answer of the writer of a body, where it fits, on tables that keep the rules.
use Rattle.std.specs.Prelude.{◌≡◌, List, ℕ, ◌+◌}
use Rattle.std.proofs.Common.{sym, ◌∙◌, arith}
use Rattle.std.proofs.Math.Decide.{dec_le}
use Rattle.meaning.specs.Once.{Once}
use Rattle.meaning.specs.Tables.{Tables}
use Rattle.tables.specs.declared.ChartTables.{ChartTables}
use Rattle.tables.specs.Given.{given}
use Rattle.layout.specs.declared.Layout.{Layout}
use Rattle.meaning.specs.Programs.{body_of}
use Rattle.meaning.specs.Written.{pairs_body}
use Rattle.write_lines.specs.Fit.{PutIfRoom}
use Rattle.write_lines.specs.Once.{RoomFor}
use Rattle.write_bits.specs.Sent.{lines, LaidTables}
use Rattle.write_bodies.specs.declared.Cursor.{Cursor}
use Rattle.write_bodies.specs.Pairs.{Pairs, Reaches}

-- the rows for a number start at one place
one_row : (ps : List ℕ) (n a b : ℕ) → Reaches ps n a → Reaches ps n b → a ≡ b
one_row ps n a b p q = elim (dec_le a b) [
  | yes g ↦ elim (dec_le b a) [
    | yes h ↦ omega arith
    | no h ↦ absurd (omega (arith, q.before a (omega arith), p.rest a (omega arith) (omega (arith, q.within))))
  ]
  | no g ↦ absurd (omega (arith, p.before b (omega arith), q.rest b (omega arith) (omega (arith, p.within))))
]

pub put_pairs_once : (c : Tables) (l : List ℕ) (s : Cursor) (t : ChartTables) (y : Layout) (ps : List ℕ) (n many : ℕ) → c.states ≡ t.states.now → LaidTables c y → Pairs c many ps → Reaches ps n s.row
    → RoomFor l s.at (lines (body_of (pairs_body c ps n)))
    → Once {A = Cursor × List ℕ} (λ (r, m). (k : Tables) → k.states ≡ t.states.now → LaidTables k y → (j : ℕ) → Pairs k j ps → Reaches ps n s.row
    → Reaches ps (n + 1) r.row × PutIfRoom l s.at (lines (body_of (pairs_body k ps n))) m r.at)
put_pairs_once c l s t y ps n many g d e f h x z p q =
    let u = p c g d many e f in let v = q c g d many e f in let w = one_row ps (n + 1) _ _ u.0 v.0 in
    λ i. (record { at = (u.1.next ∙ sym v.1.next) i; row = w i }, (u.1.list h ∙ sym (v.1.list h)) i)

-- ---- the same of the lent tables: no second answer for these, whatever an answer is for others with their slices

pub put_pairs_given_once : (t : ChartTables) (l : List ℕ) (s : Cursor) (y : Layout) (ps : List ℕ) (n many : ℕ)
    → LaidTables (given t) y → Pairs (given t) many ps → Reaches ps n s.row
    → RoomFor l s.at (lines (body_of (pairs_body (given t) ps n)))
    → Once {A = Cursor × List ℕ} (λ (r, m). LaidTables (given t) y → (j : ℕ) → Pairs (given t) j ps
    → Reaches ps n s.row
    → Reaches ps (n + 1) r.row × PutIfRoom l s.at (lines (body_of (pairs_body (given t) ps n))) m r.at)
put_pairs_given_once t l s y ps n many d e f h x z p q =
    let u = p d many e f in
    let v = q d many e f in
    let w = one_row ps (n + 1) _ _ u.0 v.0 in
    λ i. (record { at = (u.1.next ∙ sym v.1.next) i; row = w i }, (u.1.list h ∙ sym (v.1.list h)) i)
