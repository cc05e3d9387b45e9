-- No second answer of the function of this crate, on tables that keep the rules.
use Rattle.std.specs.Prelude.{◌≡◌, List, ℕ, ◌≤◌}
use Rattle.std.proofs.Common.{sym, ◌∙◌}
use Rattle.meaning.specs.Once.{Once}
use Rattle.meaning.specs.Tables.{Tables}
use Rattle.meaning.specs.Rules.{Rules}
use Rattle.meaning.specs.Stands.{coded_leaf}
use Rattle.layout.specs.Laid.{LaidOut}
use Rattle.layout.specs.declared.Layout.{Layout}
use Rattle.tables.specs.declared.ChartTables.{ChartTables}
use Rattle.tables.specs.Given.{given}

pub laid_leaf_once : (t : ChartTables) (c : Tables) (l : Layout) (fs : List ℕ) → c.states ≡ t.states.now
    → Rules c → LaidOut c l
    → Once (λ r. (k : Tables) → k.states ≡ t.states.now → Rules k → LaidOut k l → (r ≡ coded_leaf k fs) × (r ≤ 256))
laid_leaf_once t c l fs e R o x y p q = (p c e R o).0 ∙ sym (q c e R o).0

-- ---- the same of the lent tables: no second answer for these, whatever an answer is for others with their slices

pub laid_leaf_given_once : (t : ChartTables) (l : Layout) (fs : List ℕ) → Rules (given t) → LaidOut (given t) l
    → Once (λ r. Rules (given t) → LaidOut (given t) l → (r ≡ coded_leaf (given t) fs) × (r ≤ 256))
laid_leaf_given_once t l fs R o x y p q = (p R o).0 ∙ sym (q R o).0
