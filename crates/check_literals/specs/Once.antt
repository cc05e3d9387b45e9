-- No second answer of the functions of this crate: of what a move needs, where it passes, the numbers of every class; of
-- the verdict; and of the words of all moves the same, where all pass.
use Rattle.std.specs.Prelude.{◌≡◌, refl, Bool, true, List, [], ℕ, ◌/◌, ◌<◌, ◌≤◌, suc, length, replicate, ℤ, is_some, IfSome, Option, Some, None}
use Rattle.std.proofs.Common.{sym, ap, ◌∙◌}
use Rattle.std.proofs.lemmas.Bool.{false≢true}
use Rattle.std.proofs.lemmas.List.{length-replicate}
use Rattle.meaning.specs.Once.{Once, OnceSeen}
use Rattle.meaning.specs.Tables.{Tables, move_count, timer_count, literal_places}
use Rattle.meaning.specs.Literals.{input_on}
use Rattle.meaning.specs.Check.{literal_passes}
use Rattle.check_needs.specs.declared.Needs.{Needs}
use Rattle.check_needs.specs.Words.{NeedWords, need_words, needs_at, WordsTo}
use Rattle.check_literals.specs.Places.{LiteralsPass}
use Rattle.check_literals.specs.declared.LiteralCounts.{LiteralCounts}
use Rattle.tables.specs.declared.ChartTables.{ChartTables}
use Rattle.tables.specs.Given.{given, tables_of}

pub of_once : (t : ChartTables) → Once {A = LiteralCounts} (λ r. (r.inputs ≡ t.chart.inputs) × (r.timers ≡ timer_count (given t)))
of_once t x y p q = λ j. record { inputs = (p.0 ∙ sym q.0) j; timers = (p.1 ∙ sym q.1) j }

-- tables with these counts and moves
abbrev pub with_moves : LiteralCounts → List ℤ → Tables
with_moves s ms = tables_of (record { step = 0; inputs = s.inputs; outputs = 0 }) [] ms (replicate s.timers 0) [] []

with_timers : (s : LiteralCounts) (ms : List ℤ) → timer_count (with_moves s ms) ≡ s.timers
unfolding timer_count
with_timers s ms = length-replicate s.timers 0

-- whether number n of every class is needed on, and off
abbrev pub bits : ℕ → Needs → Bool × Bool × Bool × Bool
bits n r = (input_on r.on.inputs n, input_on r.on.timers n, input_on r.off.inputs n, input_on r.off.timers n)

same_needs : (c : Tables) (i n : ℕ) (x y : Needs) → 1 ≤ n → n ≤ 64 → NeedWords c i literal_places x → NeedWords c i literal_places y → bits n x ≡ bits n y
same_needs c i n x y h k a b = λ j. (
  (a.on.inputs n h k ∙ sym (b.on.inputs n h k)) j,
  (a.on.timers n h k ∙ sym (b.on.timers n h k)) j,
  (a.off.inputs n h k ∙ sym (b.off.inputs n h k)) j,
  (a.off.timers n h k ∙ sym (b.off.timers n h k)) j,
)

-- the same of what a move needs, if it passes
abbrev pub bits_of : ℕ → Option Needs → Option (Bool × Bool × Bool × Bool)
bits_of n None = None
bits_of n (Some r) = Some (bits n r)

same_found : (c : Tables) (i n : ℕ) → 1 ≤ n → n ≤ 64 → (x y : Option Needs) → (is_some x ≡ literal_passes c i) × IfSome x (λ a. NeedWords c i literal_places a)
    → (is_some y ≡ literal_passes c i) × IfSome y (λ a. NeedWords c i literal_places a) → bits_of n x ≡ bits_of n y
same_found c i n h k None None p q = refl
same_found c i n h k None (Some y) p q = absurd (false≢true (p.0 ∙ sym q.0))
same_found c i n h k (Some x) None p q = absurd (false≢true (q.0 ∙ sym p.0))
same_found c i n h k (Some x) (Some y) p q = ap Some (same_needs c i n x y h k p.1 q.1)

pub needs_of_once : (t : ChartTables) (s : LiteralCounts) (i n : ℕ) → 1 ≤ n → n ≤ 64
    → OnceSeen (bits_of n) (λ r. (c : Tables) → c.inputs ≡ s.inputs → timer_count c ≡ s.timers → c.moves ≡ t.moves.now
    → (is_some r ≡ literal_passes c i) × IfSome r (λ a. NeedWords c i literal_places a))
needs_of_once t s i n h k x y p q =
    let c = with_moves s t.moves.now in
    let e = with_timers s t.moves.now in same_found c i n h k x y (p c refl e refl) (q c refl e refl)

pub literal_passes_once : (t : ChartTables) (s : LiteralCounts) (i : ℕ) (ws : List ℕ)
    → OnceSeen {A = Bool × List ℕ} (λ (r, m). r) (λ (r, m). (length m ≡ length ws) × ((c : Tables) → c.inputs ≡ s.inputs → timer_count c ≡ s.timers → c.moves ≡ t.moves.now
    → (r ≡ literal_passes c i) × (r ≡ true → i < length ws / need_words → WordsTo c i ws → WordsTo c (suc i) m)))
literal_passes_once t s i ws x y p q =
    let c = with_moves s t.moves.now in
    let e = with_timers s t.moves.now in (p.1 c refl e refl).0 ∙ sym (q.1 c refl e refl).0

pub fill_once : (t : ChartTables) (s : LiteralCounts) (ws : List ℕ) (i n : ℕ) → LiteralsPass (with_moves s t.moves.now) → move_count (with_moves s t.moves.now) ≤ length ws / need_words
    → i < move_count (with_moves s t.moves.now) → 1 ≤ n → n ≤ 64
    → OnceSeen (λ m. bits n (needs_at m i)) (λ m. (c : Tables) → c.inputs ≡ s.inputs → timer_count c ≡ s.timers → c.moves ≡ t.moves.now
    → LiteralsPass c → move_count c ≤ length ws / need_words → WordsTo c (move_count c) m)
fill_once t s ws i n l r z h k x y p q =
    let c = with_moves s t.moves.now in
    let e = with_timers s t.moves.now in
    same_needs c i n (needs_at x i) (needs_at y i) h k (p c refl e refl l r i z) (q c refl e refl l r i z)

-- ---- the same of the lent tables: no second answer for these, whatever an answer is for others with their slices

pub needs_of_given_once : (t : ChartTables) (i n : ℕ) → 1 ≤ n → n ≤ 64
    → OnceSeen (bits_of n) (λ r. (is_some r ≡ literal_passes (given t) i)
    × IfSome r (λ a. NeedWords (given t) i literal_places a))
needs_of_given_once t i n h k x y p q = same_found (given t) i n h k x y p q

pub literal_passes_given_once : (t : ChartTables) (i : ℕ) (ws : List ℕ)
    → OnceSeen {A = Bool × List ℕ} (λ (r, m). r) (λ (r, m). (length m ≡ length ws) × (r ≡ literal_passes (given t) i)
    × (r ≡ true → i < length ws / need_words → WordsTo (given t) i ws → WordsTo (given t) (suc i) m))
literal_passes_given_once t i ws x y p q = p.1 ∙ sym q.1

pub fill_given_once : (t : ChartTables) (ws : List ℕ) (i n : ℕ) → LiteralsPass (given t)
    → move_count (given t) ≤ length ws / need_words
    → i < move_count (given t) → 1 ≤ n → n ≤ 64
    → OnceSeen (λ m. bits n (needs_at m i)) (λ m. LiteralsPass (given t)
    → move_count (given t) ≤ length ws / need_words → WordsTo (given t) (move_count (given t)) m)
fill_given_once t ws i n l r z h k x y p q =
    same_needs (given t) i n (needs_at x i) (needs_at y i) h k (p l r i z) (q l r i z)
