-- What the check of the tables promises, and the laws of verdicts that stand one after the other.
use Rattle.meaning.specs.Refusals.{Verdict}
use Rattle.std.specs.Prelude.{◌≡◌, refl, ℕ, suc, ◌/◌, ◌≤◌, ◌<◌, Bool, true, false, List, [], ◌∷◌, ◌++◌, eqb, length, Ok, Err}
use Rattle.std.proofs.Common.{sym, ap, ◌∙◌, arith, true≢false}
use Rattle.std.proofs.Math.Logic.{inl, inr}
use Rattle.std.proofs.Math.Nat.{zero-add}
use Rattle.std.proofs.Math.Bool.{not}
use Rattle.std.proofs.lemmas.Bool.{false≢true}
use borrow.Author.Tests.{eqb-true, eq-eqb, ne_eqb, not-false}
use Rattle.meaning.specs.Rows.{least}
use Rattle.meaning.proofs.Laws.Rows.{which, least_at, least_none, least_before, true_not, false_not}
use Rattle.meaning.specs.Tables.{Tables, state_count, move_count, timer_count, pair_count}
use Rattle.meaning.specs.Check.{Check, first_failing, verdict_of, size_passes, hierarchy_passes, initial_passes, preset_passes, pair_passes, move_passes, literal_passes, idle_passes, overlap_passes, flip_flop_passes, checks, verdict}
use Rattle.meaning.specs.declared.Refusal.{Refusal}
use Rattle.meaning.specs.declared.Refusal.TheVariants as R
use Rattle.check_needs.specs.Words.{need_words, WordsTo}

-- the answer is the verdict of the tables
abbrev pub Checked : Tables → Verdict → Type 0
Checked c r = r ≡ verdict c

-- the checks of `checks`, by name
abbrev pub size_check : Tables → Check
size_check c = record { refusal = λ p. R.Size; rows = 1; passes = λ i. size_passes c }

abbrev pub hierarchy_check : Tables → Check
hierarchy_check c = record { refusal = R.Hierarchy; rows = state_count c; passes = hierarchy_passes c }

abbrev pub initial_check : Tables → Check
initial_check c = record { refusal = R.Initial; rows = state_count c; passes = initial_passes c }

abbrev pub preset_check : Tables → Check
preset_check c = record { refusal = R.Preset; rows = timer_count c; passes = preset_passes c }

abbrev pub timer_pair_check : Tables → Check
timer_pair_check c = record { refusal = R.TimerPair; rows = pair_count c.timer_pairs; passes = pair_passes c (timer_count c) c.timer_pairs }

abbrev pub output_pair_check : Tables → Check
output_pair_check c = record { refusal = R.OutputPair; rows = pair_count c.output_pairs; passes = pair_passes c c.outputs c.output_pairs }

abbrev pub move_check : Tables → Check
move_check c = record { refusal = R.Move; rows = move_count c; passes = move_passes c }

abbrev pub literal_check : Tables → Check
literal_check c = record { refusal = R.Literal; rows = move_count c; passes = literal_passes c }

abbrev pub idle_check : Tables → Check
idle_check c = record { refusal = R.IdleTimer; rows = move_count c; passes = idle_passes c }

abbrev pub overlap_check : Tables → Check
overlap_check c = record { refusal = R.Overlap; rows = move_count c; passes = overlap_passes c }

abbrev pub flip_flop_check : Tables → Check
flip_flop_check c = record { refusal = λ p. R.FlipFlops; rows = 1; passes = λ i. flip_flop_passes c }

-- the checks before the moves, those of what the moves need, and all of the moves
abbrev pub table_checks : Tables → List Check
table_checks c = hierarchy_check c ∷ initial_check c ∷ preset_check c ∷ timer_pair_check c ∷ output_pair_check c ∷ []

abbrev pub need_checks : Tables → List Check
need_checks c = literal_check c ∷ idle_check c ∷ overlap_check c ∷ []

abbrev pub move_checks : Tables → List Check
move_checks c = move_check c ∷ need_checks c

-- "Refusals, in the order of checking"
pub in_order : (c : Tables) → checks c ≡ ((size_check c ∷ []) ++ (table_checks c ++ (move_checks c ++ (flip_flop_check c ∷ []))))
unfolding checks
in_order c = refl

abbrev pub is_refused : Verdict → Bool
is_refused (Ok tt) = false
is_refused (Err r) = true

-- ---- one check

module _ (k : Check) where
  -- "The place is the least failing row, from 0."
  pub fails_at : (i : ℕ) → i < k.rows → ((j : ℕ) → j < i → k.passes j ≡ true) → k.passes i ≡ false → verdict_of (k ∷ []) ≡ Err (k.refusal i)
  unfolding verdict_of first_failing
  fails_at i h p e =
      let f : least (λ j. not (k.passes j)) 0 k.rows ≡ i =
      least_at (λ j. not (k.passes j)) 0 k.rows i (omega arith) (omega arith) (false_not (k.passes i) e) (λ j a b. true_not (k.passes j) (p j b)) in
      rw (verdict_of, f, ne_eqb i k.rows (λ z. omega arith)) (ap (λ j. Err (k.refusal j)) f)

  pub all_pass : ((j : ℕ) → j < k.rows → k.passes j ≡ true) → verdict_of (k ∷ []) ≡ (Ok tt)
  unfolding verdict_of first_failing
  all_pass p =
      let f : least (λ j. not (k.passes j)) 0 k.rows ≡ k.rows =
      least_none (λ j. not (k.passes j)) 0 k.rows (λ j a b. true_not (k.passes j) (p j (omega arith))) ∙ zero-add k.rows in
      rw (verdict_of, f, eq-eqb k.rows k.rows refl)

  -- where it does not refuse, every row passes
  pub passed : is_refused (verdict_of (k ∷ [])) ≡ false → (i : ℕ) → i < k.rows → k.passes i ≡ true
  unfolding verdict_of first_failing
  passed e i h = elim (which (eqb (least (λ j. not (k.passes j)) 0 k.rows) k.rows)) [
    | inl f ↦ not-false (k.passes i) (least_before (λ j. not (k.passes j)) 0 k.rows i (omega arith) (omega (arith, eqb-true (least (λ j. not (k.passes j)) 0 k.rows) k.rows f)))
    | inr f ↦ absurd (true≢false (rw (verdict_of, f) at e))
  ]

-- ---- checks one after the other

pub stop : (ks ls : List Check) → is_refused (verdict_of ks) ≡ true → verdict_of (ks ++ ls) ≡ verdict_of ks
unfolding verdict_of
stop [] ls e = absurd (false≢true e)
stop (k ∷ ks) ls e = elim (which (eqb (first_failing k) k.rows)) [
  | inl f ↦ rw (verdict_of, f) (stop ks ls (rw (verdict_of, f) at e))
  | inr f ↦ rw (verdict_of, f)
]

pub go : (ks ls : List Check) → is_refused (verdict_of ks) ≡ false → verdict_of (ks ++ ls) ≡ verdict_of ls
unfolding verdict_of
go [] ls e = refl
go (k ∷ ks) ls e = elim (which (eqb (first_failing k) k.rows)) [
  | inl f ↦ rw (verdict_of, f) (go ks ls (rw (verdict_of, f) at e))
  | inr f ↦ absurd (true≢false (rw (verdict_of, f) at e))
]

-- a verdict on the first checks that refuses is the verdict on all; one that does not leaves it to the others
pub front_decides : (ks ls : List Check) {v : Verdict} → v ≡ verdict_of ks → is_refused v ≡ true → v ≡ verdict_of (ks ++ ls)
front_decides ks ls e p = e ∙ sym (stop ks ls (ap is_refused (sym e) ∙ p))

pub later_decide : (ks ls : List Check) {v : Verdict} → v ≡ verdict_of ks → is_refused v ≡ false → verdict_of ls ≡ verdict_of (ks ++ ls)
later_decide ks ls e p = sym (go ks ls (ap is_refused (sym e) ∙ p))

-- so does the verdict on the first one
pub first_refuses : (k : Check) (ks : List Check) {r : Refusal} → Err r ≡ verdict_of (k ∷ []) → Err r ≡ verdict_of (k ∷ ks)
first_refuses k ks e = front_decides (k ∷ []) ks e refl

pub first_passes : (k : Check) (ks : List Check) → Ok tt ≡ verdict_of (k ∷ []) → verdict_of ks ≡ verdict_of (k ∷ ks)
first_passes k ks e = later_decide (k ∷ []) ks e refl

-- where none of them refuses, the first does not, and the others do not
pub first_goes : (k : Check) (ks : List Check) → is_refused (verdict_of (k ∷ ks)) ≡ false → is_refused (verdict_of (k ∷ [])) ≡ false
unfolding verdict_of
first_goes k ks e = elim (which (eqb (first_failing k) k.rows)) [
  | inl f ↦ rw (verdict_of, f)
  | inr f ↦ absurd (true≢false (rw (verdict_of, f) at e))
]

pub rest_goes : (k : Check) (ks : List Check) → is_refused (verdict_of (k ∷ ks)) ≡ false → is_refused (verdict_of ks) ≡ false
unfolding verdict_of
rest_goes k ks e = elim (which (eqb (first_failing k) k.rows)) [
  | inl f ↦ rw (verdict_of, f) at e
  | inr f ↦ absurd (true≢false (rw (verdict_of, f) at e))
]

-- ---- what the moves need

-- LITERAL has passed, and what the moves need is in these words
pub record LiteralsPassed (c : Tables) (ws : List ℕ) : Type 0 where
  pub pass : (i : ℕ) → i < move_count c → literal_passes c i ≡ true
  pub room : move_count c ≤ length ws / need_words
  pub words : WordsTo c (move_count c) ws

pub worded : (c : Tables) (ws : List ℕ) {v : Verdict} → v ≡ verdict_of (literal_check c ∷ []) → is_refused v ≡ false → move_count c ≤ length ws / need_words → WordsTo c (move_count c) ws → LiteralsPassed c ws
worded c ws e f h w = record { pass = passed (literal_check c) (ap is_refused (sym e) ∙ f); room = h; words = w }

-- those of the first moves
pub words_first : (c : Tables) (ws : List ℕ) → LiteralsPassed c ws → (i : ℕ) → i < move_count c → WordsTo c (suc i) ws
words_first c ws w i h k g = w.words k (omega arith)

-- ---- the first check and the last

pub size_stops : (c : Tables) → size_passes c ≡ false → Err R.Size ≡ verdict c
unfolding verdict
size_stops c e = front_decides (size_check c ∷ []) (table_checks c ++ (move_checks c ++ (flip_flop_check c ∷ []))) (sym (fails_at (size_check c) 0 (omega arith) (λ j h. absurd (omega arith)) e)) refl
    ∙ sym (ap verdict_of (in_order c))

pub size_goes : (c : Tables) → size_passes c ≡ true → verdict_of (table_checks c ++ (move_checks c ++ (flip_flop_check c ∷ []))) ≡ verdict c
unfolding verdict
size_goes c e = later_decide (size_check c ∷ []) (table_checks c ++ (move_checks c ++ (flip_flop_check c ∷ []))) (sym (all_pass (size_check c) (λ j h. e))) refl
    ∙ sym (ap verdict_of (in_order c))
