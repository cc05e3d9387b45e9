-- A record, byte after byte: it passes or not by its fields, and stores their numbers.
use Rattle.std.specs.Prelude.{◌≡◌, ◌⊎◌, Bool, ◌&&◌, not, cond, length, leb, eqb, Some, None, Option}
use Rattle.std.proofs.Math.Path.{refl}
use Rattle.std.proofs.Common.{sym, ap, ◌∙◌}
use Rattle.std.proofs.Math.Logic.{inl, inr}
use Prim.Native.Nat.{ℕ, zero, suc, ◌+◌, ◌*◌, ◌-◌, ◌<◌}
use native.Mathlib.Omega.{arith}
use Rattle.std.proofs.Math.Decide.{ℕ_discrete}
use Rattle.std.proofs.Math.Bool.{true, false, and-false}
use Rattle.std.proofs.lemmas.Bool.{false≢true}
use mathlib.Core.List.{List, [], ◌∷◌, ◌++◌, flat_map, append-nil}
use Rattle.std.proofs.Math.Dec.{eqb-suc-suc, eqb-suc-zero, eqb-zero-suc}
use borrow.Author.Tests.{lt-ltb, lt-leb, eq-eqb, ne_eqb}
use Rattle.meaning.specs.Programs.{all}
use Rattle.meaning.specs.Literals.{between}
use Rattle.meaning.proofs.Laws.Rows.{which, and_l, and_r}
use Rattle.format.specs.Records.{front, pieces, without_cr}
use Rattle.format.proofs.Laws.Lines.{one_line}
use Rattle.csv_field.specs.declared.FieldPhase.{FieldPhase}
use Rattle.csv_field.specs.declared.FieldPhase.TheVariants.{Fresh, Empty, Quote, Minus, Number, Closed, Return, Bad}
use Rattle.csv_cursor.specs.declared.Reader.{Reader}
use Rattle.csv_field.specs.Field.{digit_added, field_begun, number_after, phase_after}
use Rattle.csv_value.specs.Decimals.{decimal_of, returned, untouched}
use Rattle.csv_cursor.specs.Passing.{count_up, reader_with, bad, ends, separator_fits, passed}
use Rattle.csv_records.specs.Automaton.{taken, field_end, feed_byte, numbers_of, field_emits, emits, feed_all, emitted}
use Rattle.csv_records.specs.Fields.{phase_all}

-- ---- pieces

pub pieces_cons : (sep : ℕ) (bs : List ℕ) → (p : List ℕ) × (ps : List (List ℕ)) × (pieces sep bs ≡ p ∷ ps)
unfolding pieces front
pieces_cons sep [] = ([], [], refl)
pieces_cons sep (b ∷ bs) = elim (which (eqb b sep)) [
  | inl e ↦ ([], pieces sep bs, rw e)
  | inr e ↦ (let r = pieces_cons sep bs in (b ∷ r.0, r.1, rw (e, r.2)))
]

-- the record that ends by LF, or by the end of the file
unfoldable pub trimmed : Bool → List ℕ → List ℕ
trimmed lf q = cond lf (without_cr q) q

trimmed_cons : (lf : Bool) (b : ℕ) (q : List ℕ) → (b ≡ 13 → ⊥) → trimmed lf (b ∷ q) ≡ b ∷ trimmed lf q
unfolding trimmed without_cr
trimmed_cons false b q h = refl
trimmed_cons true b [] h = rw (ne_eqb b 13 h)
trimmed_cons true b (d ∷ q) h = refl

-- ---- the fields of a record

abbrev pub is_number : (Option ℕ) → Bool
is_number (Some v) = true
is_number None = false

module _ (most below : ℕ) where
  -- the fields that are left, the first of them from phase p on: as many as asked, each a decimal
  unfoldable pub rest_passes : FieldPhase → ℕ → List (List ℕ) → Bool
  rest_passes p l [] = false
  rest_passes p l (f ∷ fs) =
      eqb (length fs) l && (is_number (decimal_of (phase_all most below p f)) && all (λ g. is_number (decimal_of (phase_all most below Empty g))) fs)

  unfoldable pub rest_numbers : FieldPhase → List (List ℕ) → List ℕ
  rest_numbers p [] = []
  rest_numbers p (f ∷ fs) = numbers_of (decimal_of (phase_all most below p f)) ++ flat_map (λ g. numbers_of (decimal_of (phase_all most below Empty g))) fs

-- the reader s after a record that began at r: it passed, and stored w; or not
pub record RecordPassed (r s : Reader) (w ws : List ℕ) : Type 0 where
  pub state : s ≡ reader_with r Fresh (count_up r.record_no) r.more s.at
  pub numbers : w ≡ ws

abbrev pub Failed : Reader → Reader → Type 0
Failed r s = s ≡ reader_with r Bad r.record_no s.left s.at

abbrev pub RecordOutcome : Bool → Reader → Reader → List ℕ → List ℕ → Type 0
RecordOutcome true r s w ws = RecordPassed r s w ws
RecordOutcome false r s w ws = Failed r s

-- the end of a record
unfoldable pub record_closed : Bool → Reader → Reader
record_closed lf s = cond (not lf && returned s.phase) (bad s) (feed_byte s 10)

-- ---- bytes

abbrev Live : FieldPhase → Type 0
Live p = (returned p ≡ false) × (untouched p ≡ false)

grown_live : (limit : ℕ) (q s : Bool) (n b : ℕ) → Live (digit_added limit q s n b)
unfolding digit_added
grown_live limit q s n b = elim (which (between 48 57 b && leb (10 * n + (b - 48)) limit)) [ inl e ↦ rw e (refl, refl) | inr e ↦ rw e (refl, refl) ]

begun_live : (most b : ℕ) → Live (field_begun most b)
unfolding field_begun
begun_live most b = elim (which (eqb b 34)) [
  | inl e ↦ rw e (refl, refl)
  | inr e ↦ rw e (elim (which (eqb b 45)) [ inl f ↦ rw f (refl, refl) | inr f ↦ rw f (grown_live most false false 0 b) ])
]

quote_live : (q s : Bool) (n : ℕ) → Live (cond q (Closed s n) Bad)
quote_live true s n = (refl, refl)
quote_live false s n = (refl, refl)

-- no byte within a field leads back to a record's start, or to its end
pub after_live : (most below : ℕ) (p : FieldPhase) (b : ℕ) → Live (phase_after most below p b)
unfolding phase_after number_after
after_live most below Fresh b = begun_live most b
after_live most below Empty b = begun_live most b
after_live most below Quote b = elim (which (eqb b 45)) [ inl e ↦ rw e (refl, refl) | inr e ↦ rw e (grown_live most true false 0 b) ]
after_live most below (Minus q) b = elim (which (eqb b 48)) [ inl e ↦ rw e (refl, refl) | inr e ↦ rw e (grown_live below q true 0 b) ]
after_live most below (Number q s n) b = elim (which (eqb b 34)) [
  | inl e ↦ rw e (quote_live q s n)
  | inr e ↦ rw e (elim (which (eqb n 0)) [ inl f ↦ rw f (refl, refl) | inr f ↦ rw f (grown_live (cond s below most) q s n b) ])
]
after_live most below (Closed s n) b = (refl, refl)
after_live most below Return b = (refl, refl)
after_live most below Bad b = (refl, refl)

tell : (d : (Option ℕ)) → ((v : ℕ) × (d ≡ Some v)) ⊎ (d ≡ None)
tell (Some v) = inl (v, refl)
tell None = inr refl

-- CR is in no decimal
return_phase : (most below : ℕ) (p : FieldPhase) → phase_after most below p 13 ≡ Bad
unfolding phase_after field_begun number_after digit_added
return_phase most below Fresh = refl
return_phase most below Empty = refl
return_phase most below Quote = refl
return_phase most below (Minus q) = refl
return_phase most below (Number q s n) = elim (which (eqb n 0)) [ inl e ↦ rw e | inr e ↦ rw e ]
return_phase most below (Closed s n) = refl
return_phase most below Return = refl
return_phase most below Bad = refl

bad_phase : (most below : ℕ) (f : List ℕ) → phase_all most below Bad f ≡ Bad
unfolding phase_all phase_after
bad_phase most below [] = refl
bad_phase most below (b ∷ f) = bad_phase most below f

bad_passes : (most below l : ℕ) (fs : List (List ℕ)) → rest_passes most below Bad l fs ≡ false
unfolding rest_passes decimal_of
bad_passes most below l [] = refl
bad_passes most below l (f ∷ fs) = rw (bad_phase most below f) (and-false (eqb (length fs) l))

plain_head : (b : ℕ) (q : List ℕ) → one_line (b ∷ q) ≡ true → b ≡ 10 → ⊥
unfolding one_line all
plain_head b q h e = false≢true (sym (ap not (eq-eqb b 10 e)) ∙ and_l (not (eqb b 10)) (one_line q) h)

plain_tail : (b : ℕ) (q : List ℕ) → one_line (b ∷ q) ≡ true → one_line q ≡ true
unfolding one_line all
plain_tail b q h = and_r (not (eqb b 10)) (one_line q) h

ends_not : (b : ℕ) → (b ≡ 44 → ⊥) → (b ≡ 10 → ⊥) → (b ≡ 13 → ⊥) → ends b ≡ false
ends_not b f g h = rw (ne_eqb b 44 f, ne_eqb b 10 g, ne_eqb b 13 h)

prefixed : (t : Bool) (r s : Reader) (z w ws : List ℕ) → RecordOutcome t r s w ws → RecordOutcome t r s (z ++ w) (z ++ ws)
prefixed true r s z w ws o = record { state = o.state; numbers = ap (λ (l : List ℕ). z ++ l) o.numbers }
prefixed false r s z w ws o = o

module _ (r : Reader) (room : r.record_no < r.limit) where
  abbrev at : FieldPhase → ℕ → ℕ → Reader
  at p l a = reader_with r p r.record_no l a

  in_room : leb r.limit r.record_no ≡ false
  in_room = lt-leb r.limit r.record_no room

  -- nothing changes any more
  pub bad_byte : (l a b : ℕ) → feed_byte (at Bad l a) b ≡ at Bad l a
  unfolding feed_byte field_end taken decimal_of phase_after
  bad_byte l a b = rw in_room (elim (which (ends b)) [
    | inr e ↦ rw e
    | inl e ↦ rw e (elim (which (eqb b 10)) [
      | inl f ↦ rw f (elim (which (separator_fits l b)) [ inl g ↦ rw g | inr g ↦ rw g ])
      | inr f ↦ rw f (elim (which (separator_fits l b)) [ inl g ↦ rw g | inr g ↦ rw g ])
    ])
  ])

  bad_bytes : (q : List ℕ) (l a : ℕ) → feed_all (at Bad l a) q ≡ at Bad l a
  unfolding feed_all
  bad_bytes [] l a = refl
  bad_bytes (b ∷ q) l a = rw (bad_byte l a b) (bad_bytes q l a)

  closed_live : (lf : Bool) (p : FieldPhase) (l a : ℕ) → returned p ≡ false → record_closed lf (at p l a) ≡ feed_byte (at p l a) 10
  unfolding record_closed
  closed_live true p l a h = refl
  closed_live false p l a h = rw h

  closed_bad : (lf : Bool) (l a : ℕ) → record_closed lf (at Bad l a) ≡ at Bad l a
  closed_bad lf l a = closed_live lf Bad l a refl ∙ bad_byte l a 10

  failed : (lf t : Bool) (q : List ℕ) (l a : ℕ) (w ws : List ℕ) → t ≡ false → RecordOutcome t r (record_closed lf (feed_all (at Bad l a) q)) w ws
  failed lf t q l a w ws e = rw (e, bad_bytes q l a, closed_bad lf l a)

  -- ---- a byte that ends a field

  -- at p is no CR
  end_is : (p : FieldPhase) (l a b v : ℕ) → (eqb b 10 && returned p) ≡ false → ends b ≡ true → separator_fits l b ≡ true → decimal_of p ≡ Some v
      → (feed_byte (at p l a) b ≡ passed (at p l a) b (count_up a)) × (emits (at p l a) b ≡ v ∷ [])
  unfolding feed_byte field_end taken emits field_emits numbers_of
  end_is p l a b v h e f d = (rw (in_room, e, h, f, d), rw (in_room, e, f, d))

  end_not : (p : FieldPhase) (l a b : ℕ) → (eqb b 10 && returned p) ≡ false → ends b ≡ true → decimal_of p ≡ None → feed_byte (at p l a) b ≡ at Bad l a
  unfolding feed_byte field_end taken
  end_not p l a b h e d = rw (in_room, e, h) (elim (which (separator_fits l b)) [ inl f ↦ rw (f, d) | inr f ↦ rw f ])

  end_out : (p : FieldPhase) (l a b : ℕ) → (eqb b 10 && returned p) ≡ false → ends b ≡ true → separator_fits l b ≡ false → feed_byte (at p l a) b ≡ at Bad l a
  unfolding feed_byte field_end
  end_out p l a b h e f = rw (in_room, e, h, f)

  return_lf : (l a : ℕ) → (feed_byte (at Return l a) 10 ≡ reader_with r Fresh (count_up r.record_no) r.more a) × (emits (at Return l a) 10 ≡ [])
  unfolding feed_byte field_end passed emits field_emits decimal_of numbers_of
  return_lf l a = (rw in_room, rw in_room (elim (which (eqb l 0)) [ inl e ↦ rw e | inr e ↦ rw e ]))

  return_other : (l a b : ℕ) → (b ≡ 10 → ⊥) → feed_byte (at Return l a) b ≡ at Bad l a
  unfolding feed_byte phase_after decimal_of
  return_other l a b h = elim (which (ends b)) [
    | inl e ↦ end_not Return l a b (rw (ne_eqb b 10 h)) e refl
    | inr e ↦ rw (in_room, e)
  ]

  other_byte : (p : FieldPhase) (l a b : ℕ) → ends b ≡ false → (feed_byte (at p l a) b ≡ at (phase_after r.most r.below p b) l a) × (emits (at p l a) b ≡ [])
  unfolding feed_byte emits
  other_byte p l a b e = (rw (in_room, e), rw (in_room, e))

  -- ---- the record

  abbrev passes : FieldPhase → ℕ → List (List ℕ) → Bool
  passes p l fs = rest_passes r.most r.below p l fs

  abbrev values : FieldPhase → List (List ℕ) → List ℕ
  values p fs = rest_numbers r.most r.below p fs

  passes_front : (p : FieldPhase) (l b : ℕ) (q : List ℕ) → passes p l (front b (pieces 44 q)) ≡ passes (phase_after r.most r.below p b) l (pieces 44 q)
  unfolding rest_passes front phase_all
  passes_front p l b q = rw (pieces_cons 44 q).2

  values_front : (p : FieldPhase) (b : ℕ) (q : List ℕ) → values p (front b (pieces 44 q)) ≡ values (phase_after r.most r.below p b) (pieces 44 q)
  unfolding rest_numbers front phase_all
  values_front p b q = rw (pieces_cons 44 q).2

  -- the bytes q, from phase p with l fields to come, then the end
  abbrev pub LineOutcome : Bool → List ℕ → FieldPhase → ℕ → ℕ → Type 0
  LineOutcome lf q p l a =
      RecordOutcome (passes p l (pieces 44 (trimmed lf q))) r (record_closed lf (feed_all (at p l a) q))
      (emitted (at p l a) q ++ emits (feed_all (at p l a) q) 10) (values p (pieces 44 (trimmed lf q)))

  line_end : (p : FieldPhase) (l a : ℕ) → returned p ≡ false → RecordOutcome (passes p l ([] ∷ [])) r (feed_byte (at p l a) 10) (emits (at p l a) 10) (values p ([] ∷ []))
  unfolding rest_passes rest_numbers phase_all all passed numbers_of flat_map
  line_end p zero a h = elim (tell (decimal_of p)) [
    | inl d ↦ (let e = end_is p 0 a 10 d.0 h refl refl d.1 in rw (d.1, e.0, e.1) (record { state = refl; numbers = refl }))
    | inr d ↦ rw (d, end_not p 0 a 10 h refl d)
  ]
  line_end p (suc l) a h = rw (eqb-zero-suc l, end_out p (suc l) a 10 h refl (eqb-suc-zero l))

  -- CR, then LF
  line_return : (p : FieldPhase) (l a : ℕ) → returned p ≡ false
      → RecordOutcome (passes p l ([] ∷ [])) r (feed_byte (feed_byte (at p l a) 13) 10) (emits (at p l a) 13 ++ emits (feed_byte (at p l a) 13) 10) (values p ([] ∷ []))
  unfolding rest_passes rest_numbers phase_all all passed numbers_of flat_map
  line_return p zero a h = elim (tell (decimal_of p)) [
    | inl d ↦ (let e = end_is p 0 a 13 d.0 refl refl refl d.1 in let f = return_lf 0 (count_up a) in rw (d.1, e.0, e.1, f.0, f.1) (record { state = refl; numbers = refl }))
    | inr d ↦ rw (d, end_not p 0 a 13 refl refl d, bad_byte 0 a 10)
  ]
  line_return p (suc l) a h = rw (eqb-zero-suc l, end_out p (suc l) a 13 refl refl (eqb-suc-zero l), bad_byte (suc l) a 10)

  return_byte : (p : FieldPhase) (l a : ℕ) → ((k : ℕ) × (feed_byte (at p l a) 13 ≡ at Return l k)) ⊎ (feed_byte (at p l a) 13 ≡ at Bad l a)
  unfolding passed
  return_byte p l a = elim (which (eqb l 0)) [
    | inr f ↦ inr (end_out p l a 13 refl refl f)
    | inl f ↦ elim (tell (decimal_of p)) [ inl d ↦ inl (count_up a, (end_is p l a 13 d.0 refl refl f d.1).0) | inr d ↦ inr (end_not p l a 13 refl refl d) ]
  ]

  -- CR, and no LF after it
  cut_end : (p : FieldPhase) (l a : ℕ) → Failed r (record_closed false (feed_byte (at p l a) 13))
  unfolding record_closed
  cut_end p l a = elim (return_byte p l a) [ inl e ↦ rw e.1 | inr e ↦ rw e (rw (bad_byte l a 10)) ]

  cut_more : (lf : Bool) (d : ℕ) (q : List ℕ) → one_line (d ∷ q) ≡ true → (p : FieldPhase) (l a : ℕ) → Failed r (record_closed lf (feed_all (feed_byte (at p l a) 13) (d ∷ q)))
  unfolding feed_all
  cut_more lf d q h p l a = elim (return_byte p l a) [
    | inl e ↦ rw (e.1, return_other l e.0 d (plain_head d q h)) (failed lf false q l e.0 [] [] refl)
    | inr e ↦ rw (e, bad_byte l a d) (failed lf false q l a [] [] refl)
  ]

  cut_passes : (p : FieldPhase) (l : ℕ) (q : List ℕ) → passes p l (pieces 44 (13 ∷ q)) ≡ false
  unfolding pieces
  cut_passes p l q = passes_front p l 13 q ∙ rw (return_phase r.most r.below p) (bad_passes r.most r.below l (pieces 44 q))

  line_lf : (p : FieldPhase) (l a : ℕ) → returned p ≡ false
      → RecordOutcome (passes p l (pieces 44 [])) r (record_closed true (feed_byte (at p l a) 13)) (emits (at p l a) 13 ++ emits (feed_byte (at p l a) 13) 10) (values p (pieces 44 []))
  unfolding pieces record_closed
  line_lf p l a e = line_return p l a e

  line_13 : (lf : Bool) (q : List ℕ) → one_line q ≡ true → (p : FieldPhase) (l a : ℕ) → returned p ≡ false → LineOutcome lf (13 ∷ q) p l a
  unfolding trimmed without_cr feed_all emitted
  line_13 false [] h p l a e = rw (cut_passes p l []) (cut_end p l a)
  line_13 false (d ∷ q) h p l a e = rw (cut_passes p l (d ∷ q)) (cut_more false d q h p l a)
  line_13 true (d ∷ q) h p l a e = rw (cut_passes p l (without_cr (d ∷ q))) (cut_more true d q h p l a)
  line_13 true [] h p l a e = rw (append-nil (emits (at p l a) 13)) (line_lf p l a e)

  -- a comma, and the rest by induction
  comma_passes : (p : FieldPhase) (l : ℕ) (q : List ℕ) (v : ℕ) → decimal_of p ≡ Some v → passes p (suc l) ([] ∷ pieces 44 q) ≡ passes Empty l (pieces 44 q)
  unfolding rest_passes phase_all all
  comma_passes p l q v d = (let c = pieces_cons 44 q in rw (c.2, d, eqb-suc-suc (length c.1) l))

  comma_values : (p : FieldPhase) (q : List ℕ) (v : ℕ) → decimal_of p ≡ Some v → values p ([] ∷ pieces 44 q) ≡ v ∷ values Empty (pieces 44 q)
  unfolding rest_numbers phase_all numbers_of flat_map
  comma_values p q v d = (let c = pieces_cons 44 q in rw (c.2, d))

  comma_many : (p : FieldPhase) (q : List ℕ) → passes p 0 ([] ∷ pieces 44 q) ≡ false
  unfolding rest_passes
  comma_many p q = (let c = pieces_cons 44 q in rw (c.2, eqb-suc-zero (length c.1)))

  comma_not : (p : FieldPhase) (l : ℕ) (q : List ℕ) → decimal_of p ≡ None → passes p l ([] ∷ pieces 44 q) ≡ false
  unfolding rest_passes phase_all
  comma_not p l q d = rw d (and-false (eqb (length (pieces 44 q)) l))

  line_comma : (lf : Bool) (q : List ℕ) (p : FieldPhase) (l a : ℕ) → ((k n : ℕ) → LineOutcome lf q Empty k n)
      → RecordOutcome (passes p l ([] ∷ pieces 44 (trimmed lf q))) r (record_closed lf (feed_all (feed_byte (at p l a) 44) q))
      ((emits (at p l a) 44 ++ emitted (feed_byte (at p l a) 44) q) ++ emits (feed_all (feed_byte (at p l a) 44) q) 10) (values p ([] ∷ pieces 44 (trimmed lf q)))
  unfolding passed
  line_comma lf q p zero a ih = rw (end_out p 0 a 44 refl refl refl) (failed lf (passes p 0 ([] ∷ pieces 44 (trimmed lf q))) q 0 a _ _ (comma_many p (trimmed lf q)))
  line_comma lf q p (suc l) a ih = elim (tell (decimal_of p)) [
    | inr d ↦ rw (end_not p (suc l) a 44 refl refl d) (failed lf (passes p (suc l) ([] ∷ pieces 44 (trimmed lf q))) q (suc l) a _ _ (comma_not p (suc l) (trimmed lf q) d))
    | inl d ↦ (let e = end_is p (suc l) a 44 d.0 refl refl (lt-ltb 0 (suc l) (omega arith)) d.1 in
        let f : suc l - 1 ≡ l = omega arith in
        rw (comma_passes p l (trimmed lf q) d.0 d.1, comma_values p (trimmed lf q) d.0 d.1, e.1, e.0, f)
        (prefixed (passes Empty l (pieces 44 (trimmed lf q))) r _ (d.0 ∷ []) _ _ (ih l (count_up a))))
  ]

  line_44 : (lf : Bool) (q : List ℕ) (p : FieldPhase) (l a : ℕ) → ((k n : ℕ) → LineOutcome lf q Empty k n) → LineOutcome lf (44 ∷ q) p l a
  unfolding feed_all emitted pieces
  line_44 lf q p l a ih = rw (trimmed_cons lf 44 q (λ z. omega arith)) (line_comma lf q p l a ih)

  line_other : (lf : Bool) (b : ℕ) (q : List ℕ) (p : FieldPhase) (l a : ℕ) → ends b ≡ false → (b ≡ 44 → ⊥) → (b ≡ 13 → ⊥)
      → LineOutcome lf q (phase_after r.most r.below p b) l a → LineOutcome lf (b ∷ q) p l a
  unfolding feed_all emitted pieces
  line_other lf b q p l a e y z ih = (let o = other_byte p l a b e in
      rw (trimmed_cons lf b q z, ne_eqb b 44 y, passes_front p l b (trimmed lf q), values_front p b (trimmed lf q), o.0, o.1) ih)

  line_none : (lf : Bool) (p : FieldPhase) (l a : ℕ) → returned p ≡ false → LineOutcome lf [] p l a
  unfolding feed_all emitted pieces trimmed without_cr
  line_none true p l a e = rw (closed_live true p l a e) (line_end p l a e)
  line_none false p l a e = rw (closed_live false p l a e) (line_end p l a e)

  pub line : (lf : Bool) (q : List ℕ) → one_line q ≡ true → (p : FieldPhase) (l a : ℕ) → returned p ≡ false → LineOutcome lf q p l a
  line lf [] h p l a e = line_none lf p l a e
  line lf (b ∷ q) h p l a e = elim (ℕ_discrete b 44) [
    | yes y ↦ rw y (line_44 lf q p l a (λ k n. line lf q (plain_tail b q h) Empty k n refl))
    | no y ↦ elim (ℕ_discrete b 13) [
      | yes z ↦ rw z (line_13 lf q (plain_tail b q h) p l a e)
      | no z ↦ line_other lf b q p l a (ends_not b y (plain_head b q h) z) y z (line lf q (plain_tail b q h) (phase_after r.most r.below p b) l a (after_live r.most r.below p b).0)
    ]
  ]
