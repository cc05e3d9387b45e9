-- Laws of Automaton.antt, case by case: what the code's branches and the theorems use.
use Rattle.std.specs.Prelude.{◌≡◌, refl, ◌⊎◌, ℕ, suc, ◌≤◌, true, ◌&&◌, cond, List, [], ◌∷◌, ◌++◌, length, set, leb, ltb, eqb, Some, None, Option}
use Rattle.std.proofs.Common.{sym, ◌∙◌, inl, inr, add-one, arith, ltb-false}
use Rattle.std.proofs.lemmas.List.Edits.{sets}
use Rattle.std.proofs.Math.Seq.{set_out}
use Rattle.meaning.proofs.Laws.Rows.{which, and_r, sets_out}
use Rattle.csv_field.specs.Field.{most64}
use Rattle.csv_value.specs.Decimals.{decimal_of, returned, untouched}
use Rattle.csv_value.specs.DecimalLaws.{return_none, fresh_none}
use Rattle.csv_cursor.specs.declared.Reader.{Reader}
use Rattle.csv_cursor.specs.Passing.{count_up, bad, ends, separator_fits, passed}
use Rattle.csv_records.specs.Automaton.{taken, field_end, feed_byte, numbers_of, field_emits, emits}

-- ---- the stores of one byte and of those after it

pub sets_up : (l : List ℕ) (i v : ℕ) (w : List ℕ) → length l ≤ most64 → sets (set l i v) (count_up i) w ≡ sets l i (v ∷ w)
sets_up l i v w h = elim (which (ltb i most64)) [
  | inl e ↦ rw (e, add-one i)
  | inr e ↦ (let h₂ : length l ≤ i = omega (arith, ltb-false i most64 e) in rw (e, set_out l i v h₂) (sets_out l i w h₂ ∙ sym (sets_out l (suc i) w (omega arith))))
]

passed_at : (r : Reader) (b at : ℕ) → (passed r b at).at ≡ at
unfolding passed
passed_at r b at = elim (which (eqb b 44)) [
  | inl e ↦ rw e
  | inr e ↦ elim (which (eqb b 13)) [ inl f ↦ rw (e, f) | inr f ↦ rw (e, f) ]
]

-- nothing is stored, or one number, and the next place is after it
abbrev Next : Reader → List ℕ → Reader → Type 0
Next r w s = ((w ≡ []) × (s.at ≡ r.at)) ⊎ ((v : ℕ) × (w ≡ v ∷ []) × (s.at ≡ count_up r.at))

taken_next : (d : (Option ℕ)) (r : Reader) (b : ℕ) → Next r (numbers_of d) (taken d r b)
unfolding numbers_of taken
taken_next (Some v) r b = inr (v, refl, passed_at r b (count_up r.at))
taken_next None r b = inl (refl, refl)

pub return_emits : (r : Reader) (b : ℕ) → returned r.phase ≡ true → field_emits r b ≡ []
unfolding field_emits numbers_of
return_emits r b e = elim (which (separator_fits r.left b)) [ inl f ↦ rw (f, return_none r.phase e) | inr f ↦ rw f ]

end_fits : (r : Reader) (b : ℕ) → Next r (field_emits r b) (cond (separator_fits r.left b) (taken (decimal_of r.phase) r b) (bad r))
unfolding field_emits
end_fits r b = elim (which (separator_fits r.left b)) [ inl f ↦ rw f (taken_next (decimal_of r.phase) r b) | inr f ↦ rw f (inl (refl, refl)) ]

field_end_next : (r : Reader) (b : ℕ) → Next r (field_emits r b) (field_end r b)
unfolding field_end
field_end_next r b = elim (which (eqb b 10 && returned r.phase)) [
  | inl e ↦ rw e (inl (return_emits r b (and_r (eqb b 10) _ e), passed_at r b r.at))
  | inr e ↦ rw e (end_fits r b)
]

byte_next : (r : Reader) (b : ℕ) → Next r (emits r b) (feed_byte r b)
unfolding emits feed_byte
byte_next r b = elim (which (leb r.limit r.record_no)) [
  | inl e ↦ rw e (inl (refl, refl))
  | inr e ↦ elim (which (ends b)) [ inl f ↦ rw (e, f) (field_end_next r b) | inr f ↦ rw (e, f) (inl (refl, refl)) ]
]

-- the stores of a byte, then those of the bytes after it
pub sets_next : (l : List ℕ) (r : Reader) (b : ℕ) (w : List ℕ) → length l ≤ most64
    → sets (sets l r.at (emits r b)) (feed_byte r b).at w ≡ sets l r.at (emits r b ++ w)
sets_next l r b w h = elim (byte_next r b) [
  | inl e ↦ rw (e.0, e.1)
  | inr e ↦ rw (e.1, e.2) (sets_up l r.at e.0 w h)
]

-- ---- the end of the file stores nothing where no field is open

pub return_emits_lf : (r : Reader) → returned r.phase ≡ true → emits r 10 ≡ []
unfolding emits
return_emits_lf r e = elim (which (leb r.limit r.record_no)) [ inl f ↦ rw f | inr f ↦ rw (f, return_emits r 10 e) ]

pub fresh_emits_lf : (r : Reader) → untouched r.phase ≡ true → emits r 10 ≡ []
unfolding emits field_emits numbers_of
fresh_emits_lf r e = elim (which (leb r.limit r.record_no)) [
  | inl f ↦ rw f
  | inr f ↦ elim (which (separator_fits r.left 10)) [ inl g ↦ rw (f, g, fresh_none r.phase e) | inr g ↦ rw (f, g) ]
]

pub ruleset none_at_end = (return_emits_lf, fresh_emits_lf)
