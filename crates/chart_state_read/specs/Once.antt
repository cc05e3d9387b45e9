-- No second answer of any function of this crate, on tables that keep the rules.
use Rattle.std.specs.Prelude.{◌≡◌, ◌≤◌, Bool, true, List, ℕ}
use Rattle.std.proofs.Common.{sym, ◌∙◌}
use Rattle.meaning.specs.Once.{Once, OnceSeen}
use Rattle.meaning.specs.Tables.{Tables, state_count}
use Rattle.meaning.specs.Rules.{Rules}
use Rattle.meaning.specs.Lent.{lent_length, state_passes}
use Rattle.tables.specs.declared.ChartTables.{ChartTables}
use Rattle.tables.specs.Given.{given}
use Rattle.chart_state_read.specs.Codes.{CodesStand, StateRoom, StateDecoded}

pub state_count_once : (c : Tables) (t : ChartTables) → c.states ≡ t.states.now → Rules c
    → Once (λ r. (r ≤ 256) × ((k : Tables) → k.states ≡ t.states.now → Rules k → r ≡ state_count k))
state_count_once c t e R x y p q = p.1 c e R ∙ sym (q.1 c e R)

pub state_length_once : (c : Tables) (t : ChartTables) → c.states ≡ t.states.now → c.presets ≡ t.presets.now → Rules c
    → Once (λ r. (k : Tables) → k.states ≡ t.states.now → k.presets ≡ t.presets.now → Rules k → r ≡ lent_length k)
state_length_once c t e f R x y p q = p c e f R ∙ sym (q c e f R)

pub state_passes_once : (c : Tables) (t : ChartTables) (cs l ws m ts rs : List ℕ) → c.scan_step ≡ t.chart.step → c.states ≡ t.states.now → c.presets ≡ t.presets.now
    → c.timer_pairs ≡ t.timer_pairs.now → Rules c → CodesStand c cs → StateRoom c ws m ts rs
    → OnceSeen {A = Bool × List ℕ × List ℕ × List ℕ} (λ (r, m', t', rs'). r) (λ (r, m', t', rs'). (k : Tables) → k.scan_step ≡ t.chart.step → k.states ≡ t.states.now → k.presets ≡ t.presets.now
    → k.timer_pairs ≡ t.timer_pairs.now → Rules k → CodesStand k cs → StateRoom k ws m ts rs → (r ≡ state_passes k l) × (r ≡ true → StateDecoded k l m' t' rs'))
state_passes_once c t cs l ws m ts rs d e f g R C E x y p q = (p c d e f g R C E).0 ∙ sym (q c d e f g R C E).0

-- ---- the same of the lent tables: no second answer for these, whatever an answer is for others with their slices

pub state_count_given_once : (t : ChartTables) → Rules (given t)
    → Once (λ r. (r ≤ 256) × (Rules (given t) → r ≡ state_count (given t)))
state_count_given_once t R x y p q = p.1 R ∙ sym (q.1 R)

pub state_length_given_once : (t : ChartTables) → Rules (given t)
    → Once (λ r. Rules (given t) → r ≡ lent_length (given t))
state_length_given_once t R x y p q = p R ∙ sym (q R)

pub state_passes_given_once : (t : ChartTables) (cs l ws m ts rs : List ℕ) → Rules (given t) → CodesStand (given t) cs
    → StateRoom (given t) ws m ts rs
    → OnceSeen {A = Bool × List ℕ × List ℕ × List ℕ} (λ (r, m', t', rs'). r) (λ (r, m', t', rs'). Rules (given t)
    → CodesStand (given t) cs → StateRoom (given t) ws m ts rs
    → (r ≡ state_passes (given t) l) × (r ≡ true → StateDecoded (given t) l m' t' rs'))
state_passes_given_once t cs l ws m ts rs R C E x y p q = (p R C E).0 ∙ sym (q R C E).0
