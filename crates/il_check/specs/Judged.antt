-- What the checks of a lent controller, a step and the number of results come to, in their order, and that they have one answer.
use Rattle.meaning.specs.Refusals.{Verdict}
use Rattle.std.specs.Prelude.{◌≡◌, ◌↔◌, ℕ, ◌≤◌, ◌<◌, Bool, true, false, cond, List, length, eqb, Ok, Err}
use Rattle.std.proofs.Common.{sym, ap, ◌∙◌, arith, le-leb}
use Rattle.std.proofs.lemmas.Bool.{lt-leb}
use Rattle.meaning.proofs.Laws.Rows.{not_both, same_test}
use Rattle.meaning.specs.Tables.{most_scan_step}
use Rattle.meaning.specs.Literals.{between}
use Rattle.meaning.specs.Programs.{Program}
use Rattle.meaning.specs.declared.Refusal.TheVariants.{Size, Text, State, Scans}
use Rattle.format.specs.Words.{AcceptedWords}
use Rattle.format.specs.Places.{WordPlace}
use Rattle.format.proofs.Laws.Words.{words_same, place_same}
use Rattle.il_scan.specs.Scans.{Fitting}
use Rattle.il_sizes.specs.Bytes.{bytes_named}
use Rattle.il_times.specs.Validity.{AreBits}

-- the lent bytes, n blocks where q are declared, and whether they are in time
pub record StatePasses (ws fs : List ℕ) (n q : ℕ) (timely : Bool) : Type 0 where
  pub size : length fs ≡ bytes_named ws
  pub blocks : n ≡ q
  pub bits : AreBits fs
  pub times : timely ≡ true

pub step_low : (d : ℕ) → d < 1 → between 1 most_scan_step d ≡ false
step_low d h = rw (lt-leb 1 d h)

pub step_high : (d : ℕ) → 1000 < d → between 1 most_scan_step d ≡ false
step_high d h = rw (le-leb 1 d (omega arith), lt-leb d 1000 h)

pub step_in : (d : ℕ) → 1 ≤ d → d ≤ 1000 → between 1 most_scan_step d ≡ true
step_in d h g = rw (le-leb 1 d h, le-leb d 1000 g)

abbrev pub rest_of : Bool → Bool → Verdict
rest_of ok fit = cond ok (cond fit (Ok tt) (Err Scans)) (Err State)

-- with n blocks, of which `timely` says whether they are in time, i input words and m results
pub data JudgedBy (d : ℕ) (ws fs : List ℕ) (n : ℕ) (timely : Bool) (i m : ℕ) (v : Verdict) : Type 0 where
  step : between 1 most_scan_step d ≡ false → v ≡ Err Size → JudgedBy d ws fs n timely i m v
  text : between 1 most_scan_step d ≡ true → (k : ℕ) → WordPlace ws k → v ≡ Err (Text k) → JudgedBy d ws fs n timely i m v
  rest : between 1 most_scan_step d ≡ true → (p : Program) → Fitting p ws → (ok : Bool) → (ok ≡ true) ↔ StatePasses ws fs n (length p.timers) timely → v ≡ rest_of ok (eqb m i) → JudgedBy d ws fs n timely i m v

abbrev pub is_accepted : Verdict → Bool
is_accepted (Ok tt) = true
is_accepted (Err q) = false

-- ---- no second answer

module _ {d : ℕ} {ws fs : List ℕ} {n : ℕ} {timely : Bool} {i m : ℕ} where
  pub judged_same : {v w : Verdict} → JudgedBy d ws fs n timely i m v → JudgedBy d ws fs n timely i m w → v ≡ w
  judged_same (JudgedBy.step a e) (JudgedBy.step b f) = e ∙ sym f
  judged_same (JudgedBy.step a e) (JudgedBy.text b k h f) = absurd (not_both a b)
  judged_same (JudgedBy.step a e) (JudgedBy.rest b p h ok t f) = absurd (not_both a b)
  judged_same (JudgedBy.text a k h e) (JudgedBy.step b f) = absurd (not_both b a)
  judged_same (JudgedBy.text a k h e) (JudgedBy.text b j g f) = e ∙ ap (λ (o : ℕ). Err (Text o)) (place_same AcceptedWords _ ws k j h g) ∙ sym f
  judged_same (JudgedBy.text a k h e) (JudgedBy.rest b p g ok t f) = absurd (h.refused (p, g.program, g.list))
  judged_same (JudgedBy.rest a p g ok t e) (JudgedBy.step b f) = absurd (not_both b a)
  judged_same (JudgedBy.rest a p g ok t e) (JudgedBy.text b k h f) = absurd (h.refused (p, g.program, g.list))
  judged_same (JudgedBy.rest a p g ok t e) (JudgedBy.rest b s h on u f) =
      let z : p ≡ s = words_same p s g.program h.program (g.list ∙ sym h.list) in
      let o : ok ≡ on = same_test ok on (λ x. u.1 (rw z at (t.0 x))) (λ y. t.1 (rw (← z) at (u.0 y))) in
      e ∙ ap (λ (c : Bool). rest_of c (eqb m i)) o ∙ sym f
