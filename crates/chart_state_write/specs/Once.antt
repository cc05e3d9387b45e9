-- No second answer of the function of this crate, on tables that keep the rules and valid states.
use Rattle.std.specs.Prelude.{◌≡◌, List, length, ℕ}
use Rattle.std.proofs.Common.{sym, ◌∙◌}
use Rattle.meaning.specs.Once.{Once}
use Rattle.meaning.specs.Tables.{Tables}
use Rattle.meaning.specs.Rules.{Rules}
use Rattle.meaning.specs.Machine.{Valid}
use Rattle.meaning.specs.Lent.{lent_length, lent_of}
use Rattle.chart_scan.specs.Held.{held}
use Rattle.chart_state_read.specs.Codes.{CodesStand}
use Rattle.tables.specs.declared.ChartTables.{ChartTables}
use Rattle.tables.specs.Given.{given}

pub encode_once : (c : Tables) (t : ChartTables) (cs m ts l : List ℕ) → c.states ≡ t.states.now → c.presets ≡ t.presets.now → Rules c
    → CodesStand c cs → length ts ≡ 32 → Valid c (held c m ts) → length l ≡ lent_length c
    → Once (λ l'. (k : Tables) → k.states ≡ t.states.now → k.presets ≡ t.presets.now → Rules k → CodesStand k cs → length ts ≡ 32 → Valid k (held k m ts)
    → length l ≡ lent_length k → l' ≡ lent_of k (held k m ts))
encode_once c t cs m ts l e p R C h v n x y q r = q c e p R C h v n ∙ sym (r c e p R C h v n)

-- ---- the same of the lent tables: no second answer for these, whatever an answer is for others with their slices

pub encode_given_once : (t : ChartTables) (cs m ts l : List ℕ) → Rules (given t) → CodesStand (given t) cs
    → length ts ≡ 32 → Valid (given t) (held (given t) m ts) → length l ≡ lent_length (given t)
    → Once (λ l'. Rules (given t) → CodesStand (given t) cs → length ts ≡ 32 → Valid (given t) (held (given t) m ts)
    → length l ≡ lent_length (given t) → l' ≡ lent_of (given t) (held (given t) m ts))
encode_given_once t cs m ts l R C h v n x y p q = p R C h v n ∙ sym (q R C h v n)
