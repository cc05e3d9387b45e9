-- What is paired with the states rests on the states and the pairs alone: two charts with the same states agree in it.
use Rattle.std.specs.Prelude.{◌≡◌, ℕ, suc, ◌<◌, ◌≤◌, List}
use Rattle.std.proofs.Common.{sym, ap, ◌∙◌}
use Rattle.meaning.specs.Tables.{Tables, most_states, state_count, super_state}
use Rattle.meaning.specs.Hierarchy.{up}
use Rattle.meaning.specs.Rules.{AtOrAbove, HierarchyRule}
use Rattle.tables.specs.Same.{state_count_same, super_state_same, up_same, paired_same}
use Rattle.check_pairing.specs.Words.{Tree, PairedWords}

module _ (c d : Tables) (e : c.states ≡ d.states) where
  hierarchy_same : (s : ℕ) → HierarchyRule c s → HierarchyRule d s
  hierarchy_same s h =
      let p = super_state_same c d e s in
      record {
        root = λ z. sym p ∙ h.root z;
        smaller = λ n. rw p at (h.smaller n);
        shallow = (h.shallow.0, h.shallow.1, sym (up_same c d e h.shallow.0 s) ∙ h.shallow.2);
      }

  pub tree_same : Tree c → Tree d
  tree_same t =
      let n = state_count_same c d e in
      record {
        few = rw n at t.few;
        hierarchy = λ s h. hierarchy_same s (t.hierarchy s (rw n h));
      }

  pub paired_words_same : (ps ws : List ℕ) → PairedWords c ps ws → PairedWords d ps ws
  paired_words_same ps ws p s n h k = p s n (rw (state_count_same c d e) h) k ∙ paired_same c d e ps (suc n) s
