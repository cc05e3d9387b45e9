-- The reading of a run for demand 3: it looks at the inputs and at the list of earlier leaves, the latest first,
-- and at no stored bit. With the machine it shares how a move is chosen once it is known which timers are expired
-- (`chosen`), where a mark leads below its target (`leads_below`, `follow`), the hierarchy (`above`, `on_the_way`,
-- `initial`), how an input is read (`input_on`), which states run a timer (`timer_runs`), N (`preset_steps`) and what
-- is seen at a leaf (`seen_at_leaf`). It shares neither the memory nor the timers: what a super-state remembers and how
-- long a timer has run are read off the list of leaves. So it says nothing against a fault in what is shared.
use Rattle.std.specs.Prelude.{ℕ, zero, suc, Bool, true, false, ◌&&◌, cond, List, [], ◌∷◌, map, ltb}
use Rattle.meaning.specs.Tables.{Tables, move_count, initial, target, mark, preset_steps}
use Rattle.meaning.specs.Hierarchy.{above, on_the_way, timer_runs}
use Rattle.meaning.specs.Literals.{input_on}
use Rattle.meaning.specs.Machine.{follow, chosen, leads_below, Seen, seen_at_leaf}

-- the sub-state of a that was active last, or its initial one if none was
unfoldable pub last_active : Tables → List ℕ → ℕ → ℕ
last_active c [] a = initial c a
last_active c (l ∷ ls) a = cond (above c a l) (on_the_way c a l) (last_active c ls a)

-- there are at least n leaves, and the latest n all lie at or below the timer's paired states
unfoldable pub last_ran : Tables → ℕ → ℕ → List ℕ → Bool
last_ran c t zero ls = true
last_ran c t (suc n) [] = false
last_ran c t (suc n) (l ∷ ls) = timer_runs c t l && last_ran c t n ls

-- "a timer is expired before a step when that step's active leaf and the N before it all lie at or below the
-- timer's paired states"
unfoldable pub expired_by : Tables → List ℕ → ℕ → Bool
expired_by c ls t = last_ran c t (suc (preset_steps c t)) ls

-- the leaf after a scan with the input word x; l is the leaf before it, and ls those before l
unfoldable pub next_leaf : Tables → ℕ → ℕ → List ℕ → ℕ
next_leaf c x l ls =
    let i = chosen c (record { input = input_on x; expired = expired_by c (l ∷ ls) }) l in
    cond (ltb i (move_count c)) (follow c (leads_below c (mark c i) (last_active c (l ∷ ls))) (target c i)) l

-- the start's leaf
unfoldable pub first_leaf : Tables → ℕ
first_leaf c = follow c (initial c) 0

unfoldable pub leaves_from : Tables → ℕ → List ℕ → List ℕ → List ℕ
leaves_from c l ls [] = []
leaves_from c l ls (x ∷ xs) = next_leaf c x l ls ∷ leaves_from c (next_leaf c x l ls) (l ∷ ls) xs

-- what is seen after each scan from the start
unfoldable pub history_reading : Tables → List ℕ → List Seen
history_reading c xs = map (seen_at_leaf c) (leaves_from c (first_leaf c) [] xs)
