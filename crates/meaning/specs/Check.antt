-- The verdict of the tables: an ordered list of checks, each over all its rows before the next begins. The tests
-- here are for computing; what each check is about stands in document 01's words in Rules.antt, and
-- proofs/Laws/Rules.antt proves that each test passes exactly where its rule is kept (OVERLAP: where LITERAL passes).
use Rattle.meaning.specs.Refusals.{Verdict}
use Rattle.std.specs.Prelude.{ℕ, suc, ◌-◌, ◌%◌, Bool, true, false, ◌&&◌, ◌||◌}
use Rattle.std.specs.Prelude.{not, cond, List, [], ◌∷◌, length, leb, Ok, Err}
use Rattle.std.specs.Prelude.{ltb, eqb, ℤ, pos, negsuc, nat_abs}
use Rattle.meaning.specs.Rows.{least, some, every}
use Rattle.meaning.specs.Tables.{Tables, most_states, most_depth, most_moves, most_inputs, most_outputs}
use Rattle.meaning.specs.Tables.{most_timers}
use Rattle.meaning.specs.Tables.{most_flip_flops, most_pairs, most_scan_step, most_preset, state_row, move_row}
use Rattle.meaning.specs.Tables.{pair_row, literal_places}
use Rattle.meaning.specs.Tables.{state_count, move_count, timer_count, pair_count, super_state, initial, cell}
use Rattle.meaning.specs.Tables.{source}
use Rattle.meaning.specs.Tables.{target, literal, preset, pair_number, pair_state}
use Rattle.meaning.specs.Hierarchy.{depth, at_or_above, sub_state, is_leaf, timer_runs}
use Rattle.meaning.specs.Layout.{flip_flop_count}
use Rattle.meaning.specs.Literals.{between, kind_of}
use Rattle.meaning.specs.Needs.{clash}
use Rattle.meaning.specs.declared.Kind.{Kind}
use Rattle.meaning.specs.declared.Kind.TheVariants.{Unused, Input, Timer, Unknown}
use Rattle.meaning.specs.declared.Refusal.{Refusal}
use Rattle.meaning.specs.declared.Refusal.TheVariants as R

-- what a check gives at a failing row, how many rows it has, and which of them pass
pub record Check : Type 0 where
  pub refusal : ℕ → Refusal
  pub rows : ℕ
  pub passes : ℕ → Bool

-- "The place is the least failing row, from 0."; if none fails, the number of rows
unfoldable pub first_failing : Check → ℕ
first_failing k = least (λ i. not (k.passes i)) 0 k.rows

unfoldable pub verdict_of : List Check → Verdict
verdict_of [] = (Ok tt)
verdict_of (k ∷ ks) =
    elim (eqb (first_failing k) k.rows) [ true ↦ verdict_of ks | false ↦ Err (k.refusal (first_failing k)) ]

unfoldable pub size_passes : Tables → Bool
size_passes c =
    eqb (length c.states % state_row) 0 && eqb (length c.moves % move_row) 0
    && eqb (length c.timer_pairs % pair_row) 0 && eqb (length c.output_pairs % pair_row) 0
    && between 1 most_states (state_count c) && leb (move_count c) most_moves && leb (timer_count c) most_timers
    && leb (pair_count c.timer_pairs) most_pairs && leb (pair_count c.output_pairs) most_pairs
    && leb c.inputs most_inputs && leb c.outputs most_outputs && between 1 most_scan_step c.scan_step

unfoldable pub hierarchy_passes : Tables → ℕ → Bool
hierarchy_passes c s = cond (eqb s 0) (eqb (super_state c s) 0) (ltb (super_state c s) s) && leb (depth c s) most_depth

unfoldable pub initial_passes : Tables → ℕ → Bool
initial_passes c s = cond (is_leaf c s) (eqb (initial c s) 0) (sub_state c s (initial c s))

unfoldable pub preset_passes : Tables → ℕ → Bool
preset_passes c i = between 1 most_preset (preset c (suc i))

-- the pair of row i comes after that of row j, in the order of (first, second)
unfoldable pub pair_after : List ℕ → ℕ → ℕ → Bool
pair_after ps j i = ltb (pair_number ps j) (pair_number ps i)
    || (eqb (pair_number ps j) (pair_number ps i) && ltb (pair_state ps j) (pair_state ps i))

unfoldable pub pair_passes : Tables → ℕ → List ℕ → ℕ → Bool
pair_passes c many ps i = between 1 many (pair_number ps i) && ltb (pair_state ps i) (state_count c)
    && (eqb i 0 || pair_after ps (i - 1) i)

-- z is one of 0, 1, .. , n - 1
unfoldable pub below : ℕ → ℤ → Bool
below n (pos k) = ltb k n
below n (negsuc k) = false

unfoldable pub move_passes : Tables → ℕ → Bool
move_passes c i = below (state_count c) (cell c i 0) && below (state_count c) (cell c i 1)
    && (below 1 (cell c i 2) || (below 2 (cell c i 2) && not (is_leaf c (target c i))))

unfoldable pub within_counts : Tables → Kind → Bool
within_counts c Unused = true
within_counts c (Input i) = leb i c.inputs
within_counts c (Timer t) = leb t (timer_count c)
within_counts c Unknown = false

-- place j may stand before place k: not a 0 before a number, not one thing twice
unfoldable pub may_precede : Tables → ℕ → ℕ → ℕ → Bool
may_precede c i j k = eqb (nat_abs (literal c i k)) 0
    || (not (eqb (nat_abs (literal c i j)) 0) && not (eqb (nat_abs (literal c i j)) (nat_abs (literal c i k))))

unfoldable pub place_passes : Tables → ℕ → ℕ → Bool
place_passes c i k = within_counts c (kind_of (nat_abs (literal c i k))) && every (λ j. may_precede c i j k) 0 k

unfoldable pub literal_passes : Tables → ℕ → Bool
literal_passes c i = every (place_passes c i) 0 literal_places

-- every leaf at or below s runs what a literal of this kind asks; Unknown is never asked, LITERAL refuses it first
unfoldable pub runs_below : Tables → ℕ → Kind → Bool
runs_below c s Unused = true
runs_below c s (Input i) = true
runs_below c s (Timer t) = every (λ l. not (is_leaf c l && at_or_above c s l) || timer_runs c t l) 0 (state_count c)
runs_below c s Unknown = true

unfoldable pub idle_passes : Tables → ℕ → Bool
idle_passes c i = every (λ j. runs_below c (source c i) (kind_of (nat_abs (literal c i j)))) 0 literal_places

-- the test for Overlap of Rules.antt: near, and no clash; it says the same where the literals of both moves pass
unfoldable pub overlaps : Tables → ℕ → ℕ → Bool
overlaps c i j =
    (at_or_above c (source c i) (source c j) || at_or_above c (source c j) (source c i)) && not (clash c i j)

unfoldable pub overlap_passes : Tables → ℕ → Bool
overlap_passes c i = not (some (overlaps c i) 0 i)

-- OVERLAP's place is the later of two moves; this is the earlier, the least that overlaps move i. It is asked only
-- where OVERLAP fails; with none it is i.
unfoldable pub earlier : Tables → ℕ → ℕ
earlier c i = least (overlaps c i) 0 i

unfoldable pub flip_flop_passes : Tables → Bool
flip_flop_passes c = leb (flip_flop_count c) most_flip_flops

unfoldable pub checks : Tables → List Check
checks c =
    record { refusal = λ p. R.Size; rows = 1; passes = λ i. size_passes c }
    ∷ record { refusal = R.Hierarchy; rows = state_count c; passes = hierarchy_passes c }
    ∷ record { refusal = R.Initial; rows = state_count c; passes = initial_passes c }
    ∷ record { refusal = R.Preset; rows = timer_count c; passes = preset_passes c }
    ∷ record {
      refusal = R.TimerPair;
      rows = pair_count c.timer_pairs;
      passes = pair_passes c (timer_count c) c.timer_pairs;
    }
    ∷ record {
      refusal = R.OutputPair;
      rows = pair_count c.output_pairs;
      passes = pair_passes c c.outputs c.output_pairs;
    }
    ∷ record { refusal = R.Move; rows = move_count c; passes = move_passes c }
    ∷ record { refusal = R.Literal; rows = move_count c; passes = literal_passes c }
    ∷ record { refusal = R.IdleTimer; rows = move_count c; passes = idle_passes c }
    ∷ record { refusal = R.Overlap; rows = move_count c; passes = overlap_passes c }
    ∷ record { refusal = λ p. R.FlipFlops; rows = 1; passes = λ i. flip_flop_passes c }
    ∷ []

unfoldable pub verdict : Tables → Verdict
verdict c = verdict_of (checks c)
