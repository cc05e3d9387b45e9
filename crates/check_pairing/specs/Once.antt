-- No second answer of the words of what is paired, on states that make a tree. Words past the chart's states are not seen.
use Rattle.std.specs.Prelude.{List, ℕ, ◌<◌, ◌≤◌, length, get_or}
use Rattle.std.proofs.Common.{sym, ◌∙◌}
use Rattle.meaning.specs.Once.{OnceSeen, Words64}
use Rattle.meaning.proofs.Laws.Bits.{same_bits}
use Rattle.meaning.specs.Tables.{state_count}
use Rattle.tables.specs.declared.ChartTables.{ChartTables}
use Rattle.tables.specs.Given.{given}
use Rattle.check_pairing.specs.Words.{Tree, Clear, PairedWords}

pub paired_words_once : (t : ChartTables) (ps ws : List ℕ) (s : ℕ) → Tree (given t) → state_count (given t) ≤ length ws → Clear ws → s < state_count (given t)
    → OnceSeen (λ r. get_or r s 0) (λ r. Words64 r × (Tree (given t) → state_count (given t) ≤ length ws → Clear ws → PairedWords (given t) ps r))
paired_words_once t ps ws s f g j h x y p q =
    same_bits 64 (get_or x s 0) (get_or y s 0) (p.0 s) (q.0 s) (λ n b. p.1 f g j s n h b ∙ sym (q.1 f g j s n h b))
