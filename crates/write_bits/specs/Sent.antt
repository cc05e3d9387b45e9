-- What a writer of tests or stores leaves: their lines, and how the next one will be written.
use Rattle.std.specs.Prelude.{◌≡◌, Bool, cond, ◌≢◌, ℕ, ◌+◌, ◌≤◌, ◌<◌, get_or, nat_abs}
use mathlib.Core.List.{List, [], ◌∷◌, flat_map}
use Rattle.meaning.specs.Rows.{table}
use Rattle.meaning.specs.Tables.{Tables, literal}
use Rattle.meaning.specs.Hierarchy.{up, depth}
use Rattle.meaning.specs.Literals.{kind_of, wanted}
use Rattle.meaning.specs.Rules.{Rules}
use Rattle.meaning.specs.Programs.{Test, load_of, and_of}
use Rattle.meaning.specs.Written.{kind_test}
use Rattle.meaning.specs.declared.Operand.{Operand}
use Rattle.meaning.specs.declared.Operand.TheVariants.{Mx, True}
use Rattle.meaning.specs.declared.Operator.{Operator}
use Rattle.meaning.specs.declared.Operator.TheVariants.{Ld, S, R}
use Rattle.format.specs.Text.{line, operator_text}
use Rattle.layout.specs.Laid.{LaidOut}
use Rattle.layout.specs.declared.Layout.{Layout}
use Rattle.write_lines.specs.Fit.{PutIfRoom}
use Rattle.write_operators.specs.declared.Way.{Way}
use Rattle.write_operators.specs.declared.Way.TheVariants.{First, More, Store}
use Rattle.write_operators.specs.Ways.{next}
use Rattle.write_bits.specs.declared.Spot.{Spot}

-- the lines of some instructions
unfoldable pub lines : List Operator → List ℕ
lines is = flat_map (λ i. line (operator_text i)) is

abbrev pub test : Bool → Operand → Test
test w o = record { wanted = w; operand = o }

-- what asks for an operand to be on or off: the first line of a body, a later one, or a store
abbrev pub operator_at : Way → Test → Operator
operator_at First t = load_of t
operator_at More t = and_of t
operator_at Store t = cond t.wanted (S t.operand) (R t.operand)

unfoldable pub operators_at : Way → List Test → List Operator
operators_at y [] = []
operators_at y (t ∷ ts) = operator_at y t ∷ operators_at (next y) ts

unfoldable pub way_after : Way → List Test → Way
way_after y [] = y
way_after y (t ∷ ts) = way_after (next y) ts

pub record TestsPut (l : List ℕ) (p : Spot) (ts : List Test) (m : List ℕ) (q : Spot) : Type 0 where
  pub put : PutIfRoom l p.at (lines (operators_at p.way ts)) m q.at
  pub way : q.way ≡ way_after p.way ts

-- "with no bits and no literals LD TRUE"
abbrev pub or_true : Way → List Operator
or_true First = Ld True ∷ []
or_true More = []
or_true Store = []

-- flip-flop b, of those that start at a base
abbrev pub bit_at : ℕ → Bool → ℕ → Test
bit_at base w b = test w (Mx (base + b))

-- the tests of the first n literal places of move i
unfoldable pub literals_to : Tables → ℕ → ℕ → List Test
literals_to c i n = flat_map (λ z. kind_test c (wanted z) (kind_of (nat_abs z))) (table (literal c i) 0 n)

-- the first k states from s up, none of them the root, and the next, t
abbrev pub Rises : Tables → ℕ → List ℕ → ℕ → ℕ → Type 0
Rises c s ps k t = (t ≡ up c k s) × ((j : ℕ) → j < k → (get_or ps j 0 ≡ up c j s) × (up c j s ≢ 0))

-- the states from s up to the root, k of them below it
pub record Risen (c : Tables) (s : ℕ) (ps : List ℕ) (k : ℕ) : Type 0 where
  pub deep : k ≡ depth c s
  pub path : (j : ℕ) → j ≤ k → get_or ps j 0 ≡ up c j s

-- tables with this layout, that keep the rules
pub record LaidTables (c : Tables) (l : Layout) : Type 0 where
  pub laid : LaidOut c l
  pub rules : Rules c
