-- What the layout of a chart's flip-flops is: for each state its group's first flip-flop and width, and its code.
use Rattle.std.specs.Prelude.{ℕ, ◌≡◌, Bool, ◌&&◌, cond, List, ltb, leb}
use Rattle.meaning.specs.Rows.{count, table}
use Rattle.meaning.specs.Tables.{Tables, most_states, state_count, super_state}
use Rattle.meaning.specs.Layout.{group_width, group_first, code}
use Rattle.layout.specs.declared.Layout.{Layout}

-- the states that are laid out: all, or none where they are more than a chart has
unfoldable pub laid_states : Tables → ℕ
laid_states c = cond (leb (state_count c) most_states) (state_count c) 0

-- the code of a sub-state; the root has none, nor what is under a number that no state has: 0 stands for none
unfoldable pub given_code : Tables → ℕ → ℕ
given_code c s = cond (ltb 0 s && ltb (super_state c s) most_states) (code c s) 0

-- what f gives at the first n places, and 0 at the others
unfoldable pub row : (ℕ → ℕ) → ℕ → List ℕ
row f n = table (λ i. cond (ltb i n) (f i) 0) 0 most_states

-- for each a, how many of the numbers below s pass
unfoldable pub tally : (ℕ → ℕ → Bool) → ℕ → List ℕ
tally t s = table (λ a. count (t a) s) 0 most_states

pub record LaidOut (c : Tables) (l : Layout) : Type 0 where
  pub first : l.first ≡ row (group_first c) (laid_states c)
  pub width : l.width ≡ row (group_width c) (laid_states c)
  pub code : l.code ≡ row (given_code c) (laid_states c)
  pub total : l.total ≡ group_first c (laid_states c)
