-- What the calls have in common: the refusals that come after the tables', their order, and what is written where.
use Rattle.std.specs.Prelude.{ℕ, List, [], ◌∷◌, ◌++◌, length, drop, eqb}
use Rattle.meaning.specs.Tables.{Tables}
use Rattle.meaning.specs.Check.{Check, checks}
use Rattle.meaning.specs.Lent.{state_passes}
use Rattle.meaning.specs.declared.Refusal.TheVariants as R

unfoldable pub state_check : Tables → List ℕ → Check
state_check c l = record { refusal = λ p. R.State; rows = 1; passes = λ i. state_passes c l }

-- 15 SCANS: "a result slice differs in length from the inputs"
unfoldable pub scans_check : ℕ → ℕ → Check
scans_check inputs results = record { refusal = λ p. R.Scans; rows = 1; passes = λ i. eqb results inputs }

-- "Checks 1 to 11 come first wherever tables or a scan step are given, .. then 14, 15": a run of the chart over lent
-- state, with its input words and its two result slices
unfoldable pub chart_run_checks : Tables → List ℕ → List ℕ → List ℕ → List ℕ → List Check
chart_run_checks c l inputs leaves outputs =
    checks c
    ++ (state_check c l
    ∷ scans_check (length inputs) (length leaves)
    ∷ scans_check (length inputs) (length outputs)
    ∷ [])

-- "An accepted call writes its result from the front and keeps the rest of the slice."; asked only where it fits
unfoldable pub overlaid : {A : Type 0} → List A → List A → List A
overlaid result l = result ++ drop (length result) l
