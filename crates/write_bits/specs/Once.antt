-- No second answer of any function of this crate, where the lines fit; of a state's bits on tables that keep the rules.
use Rattle.std.specs.Prelude.{◌≡◌, List, ℕ, ◌<◌}
use Rattle.std.proofs.Common.{sym, ◌∙◌}
use Rattle.meaning.specs.Once.{Once}
use Rattle.meaning.specs.Tables.{Tables, state_count}
use Rattle.meaning.specs.Hierarchy.{depth}
use Rattle.meaning.specs.Rules.{SubState, Rules}
use Rattle.meaning.specs.Programs.{Test}
use Rattle.meaning.specs.Written.{group_bits, path_bits, literal_tests}
use Rattle.tables.specs.declared.ChartTables.{ChartTables}
use Rattle.tables.specs.Given.{given}
use Rattle.layout.specs.Laid.{LaidOut}
use Rattle.layout.specs.declared.Layout.{Layout}
use Rattle.write_lines.specs.Fit.{PutIfRoom}
use Rattle.write_lines.specs.Once.{RoomFor, one_fit}
use Rattle.write_bits.specs.declared.Spot.{Spot}
use Rattle.write_bits.specs.Sent.{lines, operators_at, TestsPut, or_true, bit_at, LaidTables}
use Rattle.write_operators.specs.Ways.{base_of}

-- the lines of the tests fit
abbrev Fits : List ℕ → Spot → List Test → Type 0
Fits l s ts = RoomFor l s.at (lines (operators_at s.way ts))

-- whatever is sent
one_sent : (l : List ℕ) (s : Spot) (ts : List Test) → Fits l s ts → Once {A = Spot × List ℕ} (λ (r, m). TestsPut l s ts m r)
one_sent l s ts h x y p q = λ i. (record { at = (p.put.next ∙ sym q.put.next) i; way = (p.way ∙ sym q.way) i }, (p.put.list h ∙ sym (q.put.list h)) i)

pub put_group_once : (c : Tables) (l : List ℕ) (s : Spot) (y : Layout) (a b : ℕ) → LaidOut c y → Rules c → SubState c a b
    → Fits l s (group_bits c (bit_at (base_of y.total s.way)) a b)
    → Once {A = Spot × List ℕ} (λ (r, m). (k : Tables) → LaidOut k y → Rules k → SubState k a b → TestsPut l s (group_bits k (bit_at (base_of y.total s.way)) a b) m r)
put_group_once c l s y a b d e f h x z p q = one_sent l s _ h x z (p c d e f) (q c d e f)

pub put_state_once : (c : Tables) (l : List ℕ) (s : Spot) (t : ChartTables) (y : Layout) (a : ℕ) → c.states ≡ t.states.now → LaidTables c y → a < state_count c
    → Fits l s (path_bits c (bit_at (base_of y.total s.way)) (depth c a) a)
    → Once {A = Spot × List ℕ} (λ (r, m). (k : Tables) → k.states ≡ t.states.now → LaidTables k y → a < state_count k → TestsPut l s (path_bits k (bit_at (base_of y.total s.way)) (depth k a) a) m r)
put_state_once c l s t y a e d f h x z p q = one_sent l s _ h x z (p c e d f) (q c e d f)

pub put_true_once : (l : List ℕ) (s : Spot) → RoomFor l s.at (lines (or_true s.way)) → Once {A = ℕ × List ℕ} (λ (r, m). PutIfRoom l s.at (lines (or_true s.way)) m r)
put_true_once l s = one_fit l s.at (lines (or_true s.way))

pub put_literals_once : (c : Tables) (l : List ℕ) (s : Spot) (t : ChartTables) (i : ℕ) → c.moves ≡ t.moves.now → Fits l s (literal_tests c i)
    → Once {A = Spot × List ℕ} (λ (r, m). (k : Tables) → k.moves ≡ t.moves.now → TestsPut l s (literal_tests k i) m r)
put_literals_once c l s t i e h x z p q = one_sent l s _ h x z (p c e) (q c e)

-- ---- the same of the lent tables: no second answer for these, whatever an answer is for others with their slices

pub put_state_given_once : (t : ChartTables) (l : List ℕ) (s : Spot) (y : Layout) (a : ℕ) → LaidTables (given t) y
    → a < state_count (given t)
    → Fits l s (path_bits (given t) (bit_at (base_of y.total s.way)) (depth (given t) a) a)
    → Once {A = Spot × List ℕ} (λ (r, m). LaidTables (given t) y → a < state_count (given t)
    → TestsPut l s (path_bits (given t) (bit_at (base_of y.total s.way)) (depth (given t) a) a) m r)
put_state_given_once t l s y a d e h x z p q = one_sent l s _ h x z (p d e) (q d e)

pub put_literals_given_once : (t : ChartTables) (l : List ℕ) (s : Spot) (i : ℕ) → Fits l s (literal_tests (given t) i)
    → Once {A = Spot × List ℕ} (λ (r, m). TestsPut l s (literal_tests (given t) i) m r)
put_literals_given_once t l s i = one_sent l s (literal_tests (given t) i)
