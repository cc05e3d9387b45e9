-- No second answer of either function of this crate, on the tables that the checks before IDLE TIMER pass. Words past
-- the chart's states are not seen.
use Rattle.std.specs.Prelude.{◌≡◌, List, ℕ, suc, ◌/◌, ◌<◌, ◌≤◌, length, get_or}
use Rattle.std.proofs.Common.{sym, ◌∙◌, arith}
use Rattle.meaning.specs.Once.{Once, OnceSeen, Words64}
use Rattle.meaning.proofs.Laws.Bits.{same_bits}
use Rattle.meaning.specs.Tables.{Tables, state_count, source}
use Rattle.meaning.specs.Check.{idle_passes}
use Rattle.tables.specs.declared.ChartTables.{ChartTables}
use Rattle.tables.specs.Given.{given}
use Rattle.check_needs.specs.Words.{need_words, WordsAt}
use Rattle.check_idle.specs.Leaves.{TimersKnown, Below, Full}

pub run_below_once : (t : ChartTables) (c : Tables) (rs ws : List ℕ) (s : ℕ) → c.states ≡ t.states.now
    → TimersKnown c rs → state_count c ≤ length ws → Full ws → s < state_count c
    → OnceSeen (λ r. get_or r s 0)
    (λ r. Words64 r × ((k : Tables) → k.states ≡ t.states.now → TimersKnown k rs → state_count k ≤ length ws
    → Full ws → Below k r))
run_below_once t c rs ws s d e f g h x y p q =
    same_bits 64 (get_or x s 0) (get_or y s 0) (p.0 s) (q.0 s)
    (λ n b. p.1 c d e f g (suc n) s (omega arith) (omega arith) h
    ∙ sym (q.1 c d e f g (suc n) s (omega arith) (omega arith) h))

pub idle_passes_once : (t : ChartTables) (c : Tables) (ls ws : List ℕ) (i : ℕ) → c.moves ≡ t.moves.now → Below c ws
    → source c i < state_count c → i < length ls / need_words → WordsAt c i ls
    → Once (λ r. (k : Tables) → k.moves ≡ t.moves.now → Below k ws → source k i < state_count k
    → i < length ls / need_words → WordsAt k i ls → r ≡ idle_passes k i)
idle_passes_once t c ls ws i d e f g h x y p q = p c d e f g h ∙ sym (q c d e f g h)

-- ---- the same of the lent tables: no second answer for these, whatever an answer is for others with their slices

pub run_below_given_once : (t : ChartTables) (rs ws : List ℕ) (s : ℕ) → TimersKnown (given t) rs
    → state_count (given t) ≤ length ws → Full ws → s < state_count (given t)
    → OnceSeen (λ r. get_or r s 0) (λ r. Words64 r × (TimersKnown (given t) rs → state_count (given t) ≤ length ws
    → Full ws → Below (given t) r))
run_below_given_once t rs ws s e f g h x y p q =
    same_bits 64 (get_or x s 0) (get_or y s 0) (p.0 s) (q.0 s)
    (λ n b. p.1 e f g (suc n) s (omega arith) (omega arith) h
    ∙ sym (q.1 e f g (suc n) s (omega arith) (omega arith) h))

pub idle_passes_given_once : (t : ChartTables) (ls ws : List ℕ) (i : ℕ) → Below (given t) ws
    → source (given t) i < state_count (given t)
    → i < length ls / need_words → WordsAt (given t) i ls
    → Once (λ r. Below (given t) ws → source (given t) i < state_count (given t) → i < length ls / need_words
    → WordsAt (given t) i ls → r ≡ idle_passes (given t) i)
idle_passes_given_once t ls ws i e f g h x y p q = p e f g h ∙ sym (q e f g h)
