-- What the writer of the page promises, and which page a refusal has.
use Rattle.std.specs.Prelude.{◌≡◌, List, ◌++◌, ℕ, ◌≤◌, ◌<◌, ◌⊎◌, Err}
use Rattle.std.proofs.Common.{inl, inr, refl, ap, ◌∙◌, arith, le-leb, eq-eqb, ne_eqb}
use Rattle.std.proofs.lemmas.Bool.{lt-leb}
use Rattle.meaning.specs.Refusals.{number_of, place_of}
use Rattle.meaning.specs.Tables.{Tables}
use Rattle.meaning.specs.Check.{verdict}
use Rattle.meaning.specs.declared.Refusal.{Refusal}
use Rattle.meaning.specs.declared.Refusal.TheVariants as R
use Rattle.format.specs.Printed.{refusal_line}
use Rattle.format.specs.NeedsTable.{needs_table, overlap_line, needs_known, needs_page}
use Rattle.write_lines.specs.Put.{BytesPut}
use Rattle.print_lines.specs.declared.Printed.{Printed}
use Rattle.check_witness.specs.declared.Witness.{Witness}
use Rattle.check_witness.specs.Shown.{OverlapShown, Witnessed}
use Rattle.check_witness.specs.Passed.{is_overlap}

-- the verdict of the tables, and the page over l
pub record NeedsPrintedTo (c : Tables) (l : List ℕ) (p : Printed) (m : List ℕ) : Type 0 where
  pub why : p.verdict ≡ verdict c
  pub written : BytesPut l 0 (needs_page c (verdict c)) m p.length

-- ---- the page of a refusal, by its number

pub page_low : (c : Tables) (r : Refusal) → number_of r < 9 → refusal_line r ≡ needs_page c (Err r)
unfolding needs_page needs_known
page_low c r h = rw (lt-leb 9 (number_of r) h, ne_eqb (number_of r) 10 (λ e. omega arith))

pub page_high : (c : Tables) (r : Refusal) → 11 < number_of r → refusal_line r ≡ needs_page c (Err r)
unfolding needs_page needs_known
page_high c r h = rw (le-leb 9 (number_of r) (omega arith), lt-leb (number_of r) 11 h, ne_eqb (number_of r) 10 (λ e. omega arith))

pub page_known : (c : Tables) (r : Refusal) → 9 ≤ number_of r → number_of r ≤ 11 → (number_of r ≡ 10 → ⊥) → needs_table c ++ refusal_line r ≡ needs_page c (Err r)
unfolding needs_page needs_known
page_known c r h g n = rw (le-leb 9 (number_of r) h, le-leb (number_of r) 11 g, ne_eqb (number_of r) 10 n)

pub page_overlap : (c : Tables) (r : Refusal) → number_of r ≡ 10 → needs_table c ++ (overlap_line c (place_of r) ++ refusal_line r) ≡ needs_page c (Err r)
unfolding needs_page needs_known
page_overlap c r e = rw (le-leb 9 (number_of r) (omega arith), le-leb (number_of r) 11 (omega arith), eq-eqb (number_of r) 10 e)

-- the refusals after LITERAL that have no pair
pub without_pair : (r : Refusal) → ((p : ℕ) × (r ≡ R.IdleTimer p)) ⊎ (r ≡ R.FlipFlops) → (9 ≤ number_of r) × (number_of r ≤ 11) × (number_of r ≡ 10 → ⊥)
without_pair r (inl (p, e)) = rw e (omega arith, omega arith, λ z. omega arith)
without_pair r (inr e) = rw e (omega arith, omega arith, λ z. omega arith)

-- that of any refusal but the three that come after LITERAL is its line alone
pub page_other : (c : Tables) (r : Refusal) → ((p : ℕ) → r ≡ R.IdleTimer p → ⊥) → ((p : ℕ) → r ≡ R.Overlap p → ⊥) → (r ≡ R.FlipFlops → ⊥)
    → refusal_line r ≡ needs_page c (Err r)
page_other c R.Size f g h = page_low c R.Size (omega arith)
page_other c (R.Hierarchy p) f g h = page_low c (R.Hierarchy p) (omega arith)
page_other c (R.Initial p) f g h = page_low c (R.Initial p) (omega arith)
page_other c (R.Preset p) f g h = page_low c (R.Preset p) (omega arith)
page_other c (R.TimerPair p) f g h = page_low c (R.TimerPair p) (omega arith)
page_other c (R.OutputPair p) f g h = page_low c (R.OutputPair p) (omega arith)
page_other c (R.Move p) f g h = page_low c (R.Move p) (omega arith)
page_other c (R.Literal p) f g h = page_low c (R.Literal p) (omega arith)
page_other c (R.IdleTimer p) f g h = absurd (f p refl)
page_other c (R.Overlap p) f g h = absurd (g p refl)
page_other c R.FlipFlops f g h = absurd (h refl)
page_other c (R.Room p) f g h = page_high c (R.Room p) (omega arith)
page_other c (R.Text p) f g h = page_high c (R.Text p) (omega arith)
page_other c R.State f g h = page_high c R.State (omega arith)
page_other c R.Scans f g h = page_high c R.Scans (omega arith)
page_other c (R.Field p) f g h = page_high c (R.Field p) (omega arith)

-- ---- the witness

pub overlap_shown : (c : Tables) (w : Witness) (r : Refusal) → Witnessed c w → verdict c ≡ Err r → number_of r ≡ 10 → OverlapShown c (place_of r) w
overlap_shown c w r s e n = s.overlap (place_of r) (e ∙ ap Err (is_overlap r n))
