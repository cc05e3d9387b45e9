-- The lines of a page by their parts, as the writers write them.
use Rattle.std.specs.Prelude.{◌≡◌, refl, ℕ, suc, ◌+◌}
use Rattle.std.proofs.Common.{ap, ◌∙◌, arith}
use mathlib.Core.List.{List, [], ◌∷◌, ◌++◌, flat_map, append_assoc, append-nil}
use Rattle.meaning.specs.Rows.{table}
use Rattle.meaning.proofs.Laws.Rows.{flat_map_append, table_snoc}
use Rattle.meaning.specs.Tables.{Tables, source, target, super_state}
use Rattle.meaning.specs.Hierarchy.{up, depth}
use Rattle.meaning.specs.Needs as N
use Rattle.meaning.specs.Check.{earlier}
use Rattle.format.specs.Text.{bytes, decimal, line}
use Rattle.format.specs.Printed.{comma}
use Rattle.format.specs.NeedsTable.{spaced, things_text, upward, needs_line, overlap_line}
use Rattle.print_needs.specs.Names.{apart}

-- ---- the parts

-- a number and the comma after it
abbrev pub cell_of : ℕ → List ℕ
cell_of n = decimal n ++ (44 ∷ [])

-- a line's last two fields
abbrev pub sets_of : N.Things → N.Things → List ℕ
sets_of a b = things_text a ++ ((44 ∷ []) ++ (things_text b ++ (10 ∷ [])))

-- the number of a move, its source and those above it, its target
abbrev pub way_of : Tables → ℕ → List ℕ
way_of c i = cell_of i ++ (upward c (source c i) ++ ((44 ∷ []) ++ cell_of (target c i)))

-- two moves that overlap, in one field
abbrev pub pair_of : ℕ → ℕ → List ℕ
pair_of i j = bytes "OVERLAP " ++ (decimal i ++ ((32 ∷ []) ++ cell_of j))

-- the same, a state, what must be on there, and what must be off
abbrev pub overlap_of : ℕ → ℕ → ℕ → N.Things → N.Things → List ℕ
overlap_of i j s a b = pair_of i j ++ (cell_of s ++ (bytes "-," ++ sets_of a b))

abbrev pub head_of : List ℕ
head_of = line (bytes "move,source and above,target,needs on,needs off")

-- the first k states above s
abbrev pub above_of : Tables → ℕ → ℕ → List ℕ
above_of c s k = apart (table (λ j. decimal (up c j s)) 1 k)

-- ---- that the lines are these

pub needs_line_lem : (c : Tables) (i : ℕ) → way_of c i ++ sets_of (N.needs_on c i) (N.needs_off c i) ≡ needs_line c i
unfolding needs_line line comma
needs_line_lem c i = simp append_assoc

pub overlap_line_lem : (c : Tables) (i : ℕ)
    → overlap_of (earlier c i) i (N.lower c (earlier c i) i) (N.both_on c (earlier c i) i) (N.both_off c (earlier c i) i) ≡ overlap_line c i
unfolding overlap_line line comma
overlap_line_lem c i = simp append_assoc

pub upward_all : (c : Tables) (s : ℕ) → decimal s ++ above_of c s (depth c s) ≡ upward c s
unfolding upward spaced table up
upward_all c s = refl

pub above_none : (c : Tables) (s : ℕ) → above_of c s 0 ≡ []
unfolding table flat_map
above_none c s = refl

-- one more
pub above_more : (c : Tables) (s k : ℕ) → above_of c s (suc k) ≡ above_of c s k ++ ((32 ∷ []) ++ decimal (super_state c (up c k s)))
unfolding up flat_map
above_more c s k =
    let f : ℕ → List ℕ = λ j. decimal (up c j s) in
    let e : 1 + k ≡ suc k = omega arith in
    ap apart (table_snoc f 1 k) ∙ flat_map_append (λ v. 32 ∷ v) (table f 1 k) (f (1 + k) ∷ []) ∙ rw (e, append-nil (decimal (super_state c (up c k s))))
