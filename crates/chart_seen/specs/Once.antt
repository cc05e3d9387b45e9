-- No second answer of the function of this crate, on tables that keep the rules.
use Rattle.std.specs.Prelude.{◌≡◌, List, ℕ, ◌<◌, set}
use Rattle.std.proofs.Common.{sym, ◌∙◌}
use Rattle.meaning.specs.Once.{Once}
use Rattle.meaning.proofs.Laws.Once.{two}
use Rattle.meaning.specs.Tables.{Tables, state_count}
use Rattle.meaning.specs.Rules.{Rules}
use Rattle.meaning.specs.Machine.{seen_at_leaf}
use Rattle.check_pairing.specs.Words.{PairedWords}

pub show_once : (c : Tables) (ws : List ℕ) (l i : ℕ) (ls os : List ℕ) → Rules c → PairedWords c c.output_pairs ws → l < state_count c
    → Once {A = List ℕ × List ℕ} (λ (m, n). (k : Tables) → Rules k → PairedWords k k.output_pairs ws → l < state_count k → (m ≡ set ls i l) × (n ≡ set os i (seen_at_leaf k l).outputs))
show_once c ws l i ls os e f g x y p q = let u = p c e f g in let v = q c e f g in two (u.0 ∙ sym v.0, u.1 ∙ sym v.1)
