-- Which state is above which, and which are on a path.
use Rattle.std.specs.Prelude.{ℕ, zero, suc, ◌-◌, Bool, ◌&&◌, not, List, ltb, eqb}
use Rattle.meaning.specs.Rows.{some, count}
use Rattle.meaning.specs.Tables.{Tables, most_depth, state_count, super_state, pair_count, pair_number, pair_state}

-- k super-states up from s
unfoldable pub up : Tables → ℕ → ℕ → ℕ
up c zero s = s
up c (suc k) s = super_state c (up c k s)

-- how far s is below the root, counted up to k
unfoldable pub levels : Tables → ℕ → ℕ → ℕ
levels c zero s = 0
levels c (suc k) zero = 0
levels c (suc k) (suc s) = suc (levels c k (super_state c (suc s)))

-- "depth at most 8 (root is 0)": one more than that stands for all that is deeper
unfoldable pub depth : Tables → ℕ → ℕ
depth c s = levels c (suc most_depth) s

-- a is at or above s: s, or its super-state, or that one's, and so on, 8 times at most; where HIERARCHY passes these
-- are all
unfoldable pub at_or_above : Tables → ℕ → ℕ → Bool
at_or_above c a s = some (λ k. eqb (up c k s) a) 0 (suc most_depth)

unfoldable pub above : Tables → ℕ → ℕ → Bool
above c a s = at_or_above c a s && not (eqb a s)

-- the sub-state of a on the way down to s; asked only where a is above s
unfoldable pub on_the_way : Tables → ℕ → ℕ → ℕ
on_the_way c a s = up c (depth c s - suc (depth c a)) s

-- s is a sub-state of a: "State 0 is the root .. and is nobody's sub-state"
unfoldable pub sub_state : Tables → ℕ → ℕ → Bool
sub_state c a s = ltb 0 s && ltb s (state_count c) && eqb (super_state c s) a

unfoldable pub sub_states : Tables → ℕ → ℕ
sub_states c a = count (sub_state c a) (state_count c)

-- "A state without sub-states is a leaf"
unfoldable pub is_leaf : Tables → ℕ → Bool
is_leaf c s = eqb (sub_states c s) 0

-- a state paired with n is on the path of the leaf l
unfoldable pub paired : Tables → List ℕ → ℕ → ℕ → Bool
paired c ps n l = some (λ i. eqb (pair_number ps i) n && at_or_above c (pair_state ps i) l) 0 (pair_count ps)

-- "A timer runs when a paired state is on the path."
unfoldable pub timer_runs : Tables → ℕ → ℕ → Bool
timer_runs c t l = paired c c.timer_pairs t l

-- "An output is on when a paired state is on the path."
unfoldable pub output_on : Tables → ℕ → ℕ → Bool
output_on c o l = paired c c.output_pairs o l
