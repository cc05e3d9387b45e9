-- Which flip-flops a super-state has, and which code each of its sub-states.
use Rattle.std.specs.Prelude.{ℕ, zero, suc, ◌+◌, ◌-◌, ◌/◌, Bool, ◌&&◌, not, cond, eqb}
use Rattle.meaning.specs.Rows.{count}
use Rattle.meaning.specs.Tables.{Tables, state_count, super_state, initial}
use Rattle.meaning.specs.Hierarchy.{sub_state, sub_states}

-- the number of significant bits of n, counted up to k
unfoldable pub significant_in : ℕ → ℕ → ℕ
significant_in zero n = 0
significant_in (suc k) zero = 0
significant_in (suc k) (suc n) = suc (significant_in k (suc n / 2))

-- a number n has no more than n bits
unfoldable pub significant : ℕ → ℕ
significant n = significant_in n n

-- "A super-state with n sub-states gets the number of significant bits of n - 1"
unfoldable pub width : ℕ → ℕ
width n = significant (n - 1)

unfoldable pub group_width : Tables → ℕ → ℕ
group_width c a = width (sub_states c a)

-- "Groups stand one after the other by rising super-state number, .. from %MX0": a leaf's group is empty
unfoldable pub group_first : Tables → ℕ → ℕ
group_first c zero = 0
group_first c (suc a) = group_first c a + group_width c a

-- B of "With B flip-flops": how many the chart has
unfoldable pub flip_flop_count : Tables → ℕ
flip_flop_count c = group_first c (state_count c)

-- a sub-state of a that is not the initial one
unfoldable pub other_sub_state : Tables → ℕ → ℕ → Bool
other_sub_state c a s = sub_state c a s && not (eqb s (initial c a))

-- "Its initial sub-state has code 0, the others 1, 2, and so on by rising state number."
unfoldable pub code : Tables → ℕ → ℕ
code c s = cond (eqb s (initial c (super_state c s))) 0 (suc (count (other_sub_state c (super_state c s)) s))
