-- When a controller stands for a machine state, and which leaf a controller shows.
use Rattle.std.specs.Prelude.{◌≡◌, ℕ, ◌+◌, ◌≤◌, ◌<◌, min, List, false}
use Rattle.meaning.specs.Rows.{least, table}
use Rattle.meaning.specs.Tables.{Tables, state_count, timer_count, preset}
use Rattle.meaning.specs.Hierarchy.{is_leaf, timer_runs}
use Rattle.meaning.specs.Layout.{group_width, group_first, flip_flop_count, code}
use Rattle.meaning.specs.Machine.{State, remembered, timer_value, active_leaf, follow, word_of}
use Rattle.meaning.specs.Lent.{coded}
use Rattle.meaning.specs.Scan.{Controller, flip_flop_on, block_at, with_in, with_pt, ton}
use Rattle.meaning.specs.declared.Block.{Block}

-- the number whose w bits stand in the flip-flops from o on, lowest first
unfoldable pub code_at : List ℕ → ℕ → ℕ → ℕ
code_at fs o w = word_of (table (flip_flop_on fs) o w)

-- the flip-flops from o on code what every super-state remembers
abbrev pub CodesMemory : Tables → List ℕ → ℕ → List ℕ → Type 0
CodesMemory c fs o m = (a : ℕ) → a < state_count c → is_leaf c a ≡ false
    → code_at fs (o + group_first c a) (group_width c a) ≡ code c (remembered m a)

-- the block after its next call: its rung has stored IN and PT
unfoldable pub next_call : Tables → State → ℕ → Block → Block
next_call c s t b = ton c.scan_step (with_pt (preset c t) (with_in (timer_runs c t (active_leaf c s.memory)) b))

-- "A controller stands for a machine state when flip-flops and working copies both code it and each block's next call
-- would give the machine's value, capped at the preset."
pub record StandsFor (c : Tables) (k : Controller) (s : State) : Type 0 where
  pub flips : CodesMemory c k.flip_flops 0 s.memory
  pub copies : CodesMemory c k.flip_flops (flip_flop_count c) s.memory
  pub blocks : (t : ℕ) → 1 ≤ t → t ≤ timer_count c
      → (next_call c s t (block_at k.blocks t)).et ≡ min (timer_value s.timers t) (preset c t)

-- the sub-state whose code the flip-flops have for the super-state a (the number of states, which is no state, if it is
-- nobody's code), and the leaf that they lead to; there the leaf is that number too
unfoldable pub coded_sub_state : Tables → List ℕ → ℕ → ℕ
coded_sub_state c fs a = least (coded c a (code_at fs (group_first c a) (group_width c a))) 0 (state_count c)

unfoldable pub coded_leaf : Tables → List ℕ → ℕ
coded_leaf c fs = follow c (coded_sub_state c fs) 0
