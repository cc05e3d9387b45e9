-- No second answer of any function of this crate.
use Rattle.std.specs.Prelude.{◌≡◌, List, ℕ, replicate, ℤ, nat_abs}
use Rattle.meaning.specs.Once.{Once}
use Rattle.meaning.proofs.Laws.Once.{is_once}
use Rattle.meaning.specs.Tables.{state_count, move_count, timer_count, pair_count, super_state, initial, pair_number, pair_state, cell, source, target, mark, literal}
use Rattle.meaning.specs.Hierarchy.{depth, sub_state, is_leaf}
use Rattle.meaning.specs.Literals.{kind_of, wanted}
use Rattle.tables.specs.declared.ChartTables.{ChartTables}
use Rattle.tables.specs.Given.{given}

pub cleared_once : Once {A = List ℕ} (λ r. r ≡ replicate 288 0)
cleared_once = is_once (replicate 288 0)

pub state_count_once : (t : ChartTables) → Once (λ r. r ≡ state_count (given t))
state_count_once t = is_once (state_count (given t))

pub move_count_once : (t : ChartTables) → Once (λ r. r ≡ move_count (given t))
move_count_once t = is_once (move_count (given t))

pub timer_count_once : (t : ChartTables) → Once (λ r. r ≡ timer_count (given t))
timer_count_once t = is_once (timer_count (given t))

pub super_state_once : (t : ChartTables) (s : ℕ) → Once (λ r. r ≡ super_state (given t) s)
super_state_once t s = is_once (super_state (given t) s)

pub initial_once : (t : ChartTables) (s : ℕ) → Once (λ r. r ≡ initial (given t) s)
initial_once t s = is_once (initial (given t) s)

pub sub_state_once : (t : ChartTables) (a s : ℕ) → Once (λ r. r ≡ sub_state (given t) a s)
sub_state_once t a s = is_once (sub_state (given t) a s)

pub leaf_once : (t : ChartTables) (s : ℕ) → Once (λ r. r ≡ is_leaf (given t) s)
leaf_once t s = is_once (is_leaf (given t) s)

pub depth_once : (t : ChartTables) (s : ℕ) → Once (λ r. r ≡ depth (given t) s)
depth_once t s = is_once (depth (given t) s)

pub cell_once : (t : ChartTables) (i j : ℕ) → Once (λ r. r ≡ cell (given t) i j)
cell_once t i j = is_once (cell (given t) i j)

pub source_once : (t : ChartTables) (i : ℕ) → Once (λ r. r ≡ source (given t) i)
source_once t i = is_once (source (given t) i)

pub target_once : (t : ChartTables) (i : ℕ) → Once (λ r. r ≡ target (given t) i)
target_once t i = is_once (target (given t) i)

pub mark_once : (t : ChartTables) (i : ℕ) → Once (λ r. r ≡ mark (given t) i)
mark_once t i = is_once (mark (given t) i)

pub literal_once : (t : ChartTables) (i j : ℕ) → Once (λ r. r ≡ literal (given t) i j)
literal_once t i j = is_once (literal (given t) i j)

pub pair_count_once : (ps : List ℕ) → Once (λ r. r ≡ pair_count ps)
pair_count_once ps = is_once (pair_count ps)

pub pair_number_once : (ps : List ℕ) (i : ℕ) → Once (λ r. r ≡ pair_number ps i)
pair_number_once ps i = is_once (pair_number ps i)

pub pair_state_once : (ps : List ℕ) (i : ℕ) → Once (λ r. r ≡ pair_state ps i)
pair_state_once ps i = is_once (pair_state ps i)

pub kind_once : (v : ℤ) → Once (λ r. r ≡ kind_of (nat_abs v))
kind_once v = is_once (kind_of (nat_abs v))

pub wanted_once : (v : ℤ) → Once (λ r. r ≡ wanted v)
wanted_once v = is_once (wanted v)
