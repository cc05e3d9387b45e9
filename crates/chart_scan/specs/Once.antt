-- No second answer of any function of this crate, on tables that keep the rules and valid states. Of the words of the
-- moves it is seen which moves hold by them; links past the chart's moves are not seen. Of memory and timers those of
-- the chart are seen.
use Rattle.std.specs.Prelude.{◌≡◌, refl, List, ℕ, ◌+◌, ◌-◌, ◌/◌, ◌<◌, ◌≤◌, length, get_or, Option, Some, None}
use Rattle.std.proofs.Common.{sym, ap, ◌∙◌, arith}
use Rattle.std.proofs.Math.Decide.{dec_le}
use Rattle.meaning.specs.Once.{Once, OnceSeen}
use Rattle.meaning.specs.Tables.{Tables, move_count, state_count}
use Rattle.meaning.specs.Rules.{Rules}
use Rattle.meaning.specs.Machine.{chosen, State, Valid}
use Rattle.chart_scan.specs.Choice.{read, HoldTo, LinkedTo, MoveIs}
use Rattle.check_needs.specs.declared.ThingWords.{ThingWords}
use Rattle.check_needs.specs.Words.{hold_words, need_words, needs_at}
use Rattle.check_needs.specs.WordsLaws.{Small}
use Rattle.meaning.proofs.Laws.Once.{three}
use Rattle.tables.specs.declared.ChartTables.{ChartTables}
use Rattle.tables.specs.Given.{given}
use Rattle.check_pairing.specs.Words.{PairedWords}
use Rattle.chart_scan.specs.Held.{TablesGiven, Empty, StateScanned, held}

pub make_needs_once : (c : Tables) (t : ChartTables) (l : List ℕ) (i : ℕ) (v : ThingWords) → c.moves ≡ t.moves.now → Rules c → move_count c ≤ length l / need_words → i < move_count c → Small v
    → OnceSeen (λ m. hold_words (needs_at m i) v) (λ m. (k : Tables) → k.moves ≡ t.moves.now → Rules k → move_count k ≤ length l / need_words → HoldTo k (move_count k) m)
make_needs_once c t l i v e f g h a m n p q = p c e f g i v h a ∙ sym (q c e f g i v h a)

-- links that are the same up to the last move's
same_links : (c : Tables) (m n : List ℕ) (i : ℕ) → i < 256 + move_count c → LinkedTo c (move_count c) m → LinkedTo c (move_count c) n → get_or m i 0 ≡ get_or n i 0
same_links c m n i h p q = elim (dec_le 256 i) [
  | yes g ↦ (let z : i ≡ 256 + (i - 256) = omega arith in rw z (p.1 (i - 256) (omega arith) ∙ sym (q.1 (i - 256) (omega arith))))
  | no g ↦ p.0 i (omega arith) ∙ sym (q.0 i (omega arith))
]

pub make_links_once : (c : Tables) (t : ChartTables) (l : List ℕ) (i : ℕ) → c.moves ≡ t.moves.now → Rules c → 768 ≤ length l → ((s : ℕ) → get_or l s 0 ≡ 0) → i < 256 + move_count c
    → OnceSeen (λ m. get_or m i 0) (λ m. (k : Tables) → k.moves ≡ t.moves.now → Rules k → 768 ≤ length l → ((s : ℕ) → get_or l s 0 ≡ 0) → LinkedTo k (move_count k) m)
make_links_once c t l i e f g z h m n p q = same_links c m n i h (p c e f g z) (q c e f g z)

-- the same move, or none
same_move : (c : Tables) (x : ℕ) (r s : Option ℕ) → MoveIs c x r → MoveIs c x s → r ≡ s
same_move c x None None p q = refl
same_move c x None (Some j) p q = absurd (omega (arith, p, q))
same_move c x (Some i) None p q = absurd (omega (arith, p, q))
same_move c x (Some i) (Some j) p q = ap (λ k. Some k) (p.1 ∙ sym q.1)

pub chosen_once : (c : Tables) (t : ChartTables) (links ns : List ℕ) (l : ℕ) (on : ThingWords) → c.states ≡ t.states.now → c.moves ≡ t.moves.now → Rules c
    → LinkedTo c (move_count c) links → HoldTo c (move_count c) ns → move_count c ≤ length ns / need_words → l < 256 → Small on
    → Once (λ r. (k : Tables) → k.states ≡ t.states.now → k.moves ≡ t.moves.now → Rules k → LinkedTo k (move_count k) links → HoldTo k (move_count k) ns → move_count k ≤ length ns / need_words → l < 256 → Small on
    → MoveIs k (chosen k (read on) l) r)
chosen_once c t links ns l on e f g h i j k m r s p q = same_move c _ r s (p c e f g h i j k m) (q c e f g h i j k m)

pub run_once : (c : Tables) (t : ChartTables) (rs ws qs m ts xs leaves outputs : List ℕ)
    → TablesGiven c t.chart.step t.chart.outputs t.states.now t.moves.now t.presets.now c.timer_pairs t.output_pairs.now → Rules c → PairedWords c c.timer_pairs rs → Empty c ws qs → state_count c ≤ length m → length ts ≡ 32
    → Valid c (held c m ts) → length leaves ≡ length xs → length outputs ≡ length xs
    → OnceSeen {A = List ℕ × List ℕ × List ℕ × List ℕ} {B = State × List ℕ × List ℕ} (λ (m', t', l, o). (held c m' t', l, o)) (λ (m', t', l, o). (k : Tables)
    → TablesGiven k t.chart.step t.chart.outputs t.states.now t.moves.now t.presets.now k.timer_pairs t.output_pairs.now → Rules k → PairedWords k k.timer_pairs rs → Empty k ws qs → state_count k ≤ length m → length ts ≡ 32
    → Valid k (held k m ts) → length leaves ≡ length xs → length outputs ≡ length xs → StateScanned k (held k m ts) xs (held k m' t') l o)
run_once c t rs ws qs m ts xs leaves outputs a b d e f g i j n x y p q =
    let u = p c a b d e f g i j n in let v = q c a b d e f g i j n in three (u.state ∙ sym v.state, u.leaves ∙ sym v.leaves, u.outputs ∙ sym v.outputs)

-- ---- the same of the lent tables: no second answer for these, whatever an answer is for others with their slices

pub make_needs_given_once : (t : ChartTables) (l : List ℕ) (i : ℕ) (v : ThingWords) → Rules (given t)
    → move_count (given t) ≤ length l / need_words → i < move_count (given t) → Small v
    → OnceSeen (λ m. hold_words (needs_at m i) v) (λ m. Rules (given t) → move_count (given t) ≤ length l / need_words
    → HoldTo (given t) (move_count (given t)) m)
make_needs_given_once t l i v f g h a m n p q = p f g i v h a ∙ sym (q f g i v h a)

pub make_links_given_once : (t : ChartTables) (l : List ℕ) (i : ℕ) → Rules (given t) → 768 ≤ length l
    → ((s : ℕ) → get_or l s 0 ≡ 0) → i < 256 + move_count (given t)
    → OnceSeen (λ m. get_or m i 0) (λ m. Rules (given t) → 768 ≤ length l → ((s : ℕ) → get_or l s 0 ≡ 0)
    → LinkedTo (given t) (move_count (given t)) m)
make_links_given_once t l i f g z h m n p q = same_links (given t) m n i h (p f g z) (q f g z)

pub chosen_given_once : (t : ChartTables) (links ns : List ℕ) (l : ℕ) (on : ThingWords) → Rules (given t)
    → LinkedTo (given t) (move_count (given t)) links → HoldTo (given t) (move_count (given t)) ns
    → move_count (given t) ≤ length ns / need_words → l < 256 → Small on
    → Once (λ r. Rules (given t) → LinkedTo (given t) (move_count (given t)) links
    → HoldTo (given t) (move_count (given t)) ns → move_count (given t) ≤ length ns / need_words → l < 256 → Small on
    → MoveIs (given t) (chosen (given t) (read on) l) r)
chosen_given_once t links ns l on g h i j k m r s p q = same_move (given t) _ r s (p g h i j k m) (q g h i j k m)

pub run_given_once : (t : ChartTables) (rs ws qs m ts xs leaves outputs : List ℕ)
    → Rules (given t) → PairedWords (given t) (given t).timer_pairs rs → Empty (given t) ws qs
    → state_count (given t) ≤ length m → length ts ≡ 32
    → Valid (given t) (held (given t) m ts) → length leaves ≡ length xs → length outputs ≡ length xs
    → OnceSeen {A = List ℕ × List ℕ × List ℕ × List ℕ} {B = State × List ℕ × List ℕ}
    (λ (m', t', l, o). (held (given t) m' t', l, o)) (λ (m', t', l, o).
    Rules (given t) → PairedWords (given t) (given t).timer_pairs rs → Empty (given t) ws qs
    → state_count (given t) ≤ length m → length ts ≡ 32
    → Valid (given t) (held (given t) m ts) → length leaves ≡ length xs → length outputs ≡ length xs
    → StateScanned (given t) (held (given t) m ts) xs (held (given t) m' t') l o)
run_given_once t rs ws qs m ts xs leaves outputs b d e f g i j n x y p q =
    let u = p b d e f g i j n in
    let v = q b d e f g i j n in
    three (u.state ∙ sym v.state, u.leaves ∙ sym v.leaves, u.outputs ∙ sym v.outputs)
