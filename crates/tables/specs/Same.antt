-- What is said of a chart's tables rests on the slices that it is said of alone: two charts with the same states, or the
-- same moves, or the same presets, agree in it, whatever their other tables are.
use Rattle.std.specs.Prelude.{◌≡◌, refl, ℕ, zero, suc, ◌*◌, ◌+◌, ◌/◌, ◌&&◌, length, get_or, pos, nat_abs, List, ltb, eqb}
use Rattle.std.proofs.Common.{ap, ap₂, ◌∙◌}
use Rattle.meaning.specs.Rows.{count}
use Rattle.meaning.proofs.Laws.Rows.{some_same, count_same}
use Rattle.meaning.specs.Tables.{Tables, state_row, move_row, most_depth, state_count, move_count, timer_count, pair_count}
use Rattle.meaning.specs.Tables.{super_state, initial, pair_number, pair_state, cell, source, target, mark, literal}
use Rattle.meaning.specs.Hierarchy.{up, levels, depth, at_or_above, sub_state, sub_states, is_leaf, paired}

-- ---- the states alone

module _ (c d : Tables) (e : c.states ≡ d.states) where
  pub state_count_same : state_count c ≡ state_count d
  unfolding state_count
  state_count_same = ap (λ l. length l / state_row) e

  pub super_state_same : (s : ℕ) → super_state c s ≡ super_state d s
  unfolding super_state
  super_state_same s = ap (λ l. get_or l (state_row * s) 0) e

  pub initial_same : (s : ℕ) → initial c s ≡ initial d s
  unfolding initial
  initial_same s = ap (λ l. get_or l (state_row * s + 1) 0) e

  pub up_same : (k s : ℕ) → up c k s ≡ up d k s
  unfolding up
  up_same zero s = refl
  up_same (suc k) s = super_state_same (up c k s) ∙ ap (super_state d) (up_same k s)

  levels_same : (k s : ℕ) → levels c k s ≡ levels d k s
  unfolding levels
  levels_same zero s = refl
  levels_same (suc k) zero = refl
  levels_same (suc k) (suc s) = ap suc (levels_same k (super_state c (suc s)) ∙ ap (levels d k) (super_state_same (suc s)))

  pub depth_same : (s : ℕ) → depth c s ≡ depth d s
  unfolding depth
  depth_same s = levels_same (suc most_depth) s

  pub at_or_above_same : (a s : ℕ) → at_or_above c a s ≡ at_or_above d a s
  unfolding at_or_above
  at_or_above_same a s =
      some_same (λ k. eqb (up c k s) a) (λ k. eqb (up d k s) a) 0 (suc most_depth) (λ k i h. ap (λ x. eqb x a) (up_same k s))

  pub sub_state_same : (a s : ℕ) → sub_state c a s ≡ sub_state d a s
  unfolding sub_state
  sub_state_same a s =
      ap₂ (λ n p. ltb 0 s && ltb s n && eqb p a) state_count_same (super_state_same s)

  pub sub_states_same : (a : ℕ) → sub_states c a ≡ sub_states d a
  unfolding sub_states
  sub_states_same a =
      count_same (sub_state d a) (sub_state c a) (state_count c) (λ i h. sub_state_same a i)
      ∙ ap (count (sub_state d a)) state_count_same

  pub is_leaf_same : (s : ℕ) → is_leaf c s ≡ is_leaf d s
  unfolding is_leaf
  is_leaf_same s = ap (λ n. eqb n 0) (sub_states_same s)

  -- what is paired with a state or one above it, by any pair table
  pub paired_same : (ps : List ℕ) (n l : ℕ) → paired c ps n l ≡ paired d ps n l
  unfolding paired
  paired_same ps n l =
      some_same (λ i. eqb (pair_number ps i) n && at_or_above c (pair_state ps i) l)
      (λ i. eqb (pair_number ps i) n && at_or_above d (pair_state ps i) l) 0 (pair_count ps)
      (λ i k h. ap (λ x. eqb (pair_number ps i) n && x) (at_or_above_same (pair_state ps i) l))

-- ---- the moves alone

module _ (c d : Tables) (e : c.moves ≡ d.moves) where
  pub move_count_same : move_count c ≡ move_count d
  unfolding move_count
  move_count_same = ap (λ l. length l / move_row) e

  pub cell_same : (i j : ℕ) → cell c i j ≡ cell d i j
  unfolding cell
  cell_same i j = ap (λ l. get_or l (move_row * i + j) (pos 0)) e

  pub source_same : (i : ℕ) → source c i ≡ source d i
  unfolding source
  source_same i = ap nat_abs (cell_same i 0)

  pub target_same : (i : ℕ) → target c i ≡ target d i
  unfolding target
  target_same i = ap nat_abs (cell_same i 1)

  pub mark_same : (i : ℕ) → mark c i ≡ mark d i
  unfolding mark
  mark_same i = ap nat_abs (cell_same i 2)

  pub literal_same : (i j : ℕ) → literal c i j ≡ literal d i j
  unfolding literal
  literal_same i j = cell_same i (3 + j)

-- ---- the presets alone

pub timer_count_same : (c d : Tables) → c.presets ≡ d.presets → timer_count c ≡ timer_count d
unfolding timer_count
timer_count_same c d e = ap length e
