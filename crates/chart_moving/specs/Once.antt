-- No second answer of either function of this crate: of what is remembered where 16 bits hold it, and of a move on tables that keep the rules.
-- Entries past the chart's states are not seen.
use Rattle.std.specs.Prelude.{◌≡◌, cond, List, ℕ, ◌<◌, ◌≤◌, length, set, take, ltb}
use Rattle.std.proofs.Common.{sym, ◌∙◌}
use Rattle.meaning.specs.Once.{Once, OnceSeen}
use Rattle.meaning.specs.Tables.{Tables, state_count, move_count}
use Rattle.meaning.specs.Rules.{Rules}
use Rattle.meaning.specs.Machine.{memory_after_move}
use Rattle.tables.specs.declared.ChartTables.{ChartTables}
use Rattle.tables.specs.Given.{given}

pub remember_once : (m : List ℕ) (a s : ℕ) → s < 65536 → Once (λ n. s < 65536 → n ≡ set m a s)
remember_once m a s h x y p q = p h ∙ sym (q h)

pub enter_once : (c : Tables) (t : ChartTables) (i : ℕ) (m : List ℕ) → c.states ≡ t.states.now → c.moves ≡ t.moves.now → Rules c → state_count c ≤ length m
    → OnceSeen (take (state_count c)) (λ n. (k : Tables) → k.states ≡ t.states.now → k.moves ≡ t.moves.now → Rules k → state_count k ≤ length m
    → take (state_count k) n ≡ cond (ltb i (move_count k)) (memory_after_move k i (take (state_count k) m)) (take (state_count k) m))
enter_once c t i m e f g h x y p q = p c e f g h ∙ sym (q c e f g h)

-- ---- the same of the lent tables: no second answer for these, whatever an answer is for others with their slices

pub enter_given_once : (t : ChartTables) (i : ℕ) (m : List ℕ) → Rules (given t) → state_count (given t) ≤ length m
    → OnceSeen (take (state_count (given t))) (λ n. Rules (given t) → state_count (given t) ≤ length m
    → take (state_count (given t)) n
    ≡ cond (ltb i (move_count (given t))) (memory_after_move (given t) i (take (state_count (given t)) m))
    (take (state_count (given t)) m))
enter_given_once t i m g h x y p q = p g h ∙ sym (q g h)
