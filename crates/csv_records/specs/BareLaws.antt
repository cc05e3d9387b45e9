-- Laws of Bare.antt: one byte, then runs of bytes, then a field with what ends it.
use Rattle.std.specs.Prelude.{◌≡◌, ℕ, zero, suc, ◌+◌, ◌*◌, ◌-◌, ◌/◌, ◌≤◌, ◌<◌, Bool, ◌&&◌, cond, List, [], set, drop, eqb, Some, None, Option, option_map}
use Rattle.std.proofs.Math.Path.{refl}
use Rattle.std.proofs.Common.{sym, ap, ◌∙◌, add-one, length-set, drop-cons}
use Rattle.std.proofs.Math.Logic.{inl, inr}
use native.Mathlib.Omega.{arith}
use Rattle.std.proofs.Math.Bool.{true, false}
use Rattle.std.proofs.Math.ListN.{length, get_or}
use Rattle.std.proofs.lemmas.List.Edits.{sets}
use Rattle.std.proofs.Math.Seq.{length-sets}
use Rattle.std.proofs.Math.Dec.{ltb}
use Rattle.std.proofs.Math.Decide.{dec_le}
use borrow.Author.Tests.{lt-ltb, lt-leb, ne_eqb, ltb-true, ltb-false, leb-true, eqb-true}
use Rattle.meaning.proofs.Laws.Rows.{which, and_l, and_r}
use Rattle.csv_field.specs.declared.FieldPhase.{FieldPhase}
use Rattle.csv_field.specs.declared.FieldPhase.TheVariants.{Minus, Number}
use Rattle.csv_field.specs.Field.{most64, phase_after, field_begun}
use Rattle.csv_value.specs.Decimals.{begins, decimal_of, encoded}
use Rattle.csv_field.specs.FieldLaws.{digit_first, digit_minus, digit_next}
use Rattle.csv_value.specs.DecimalLaws.{begin_after}
use Rattle.csv_cursor.specs.declared.Reader.{Reader}
use Rattle.csv_bare.specs.declared.BareNumber.{BareNumber}
use Rattle.csv_bare.specs.Bare.{takes_digit, digits_from, negated, first, number_from, bare_from, returns, end_from}
use Rattle.csv_bare.specs.BareLaws.{digits_on, digits_stop, digits_end, digits_reach}
use Rattle.csv_cursor.specs.Passing.{count_up, ends, passed}
use Rattle.csv_records.specs.Automaton.{taken, field_end, feed_byte, numbers_of, field_emits, emits, feed_all, emitted, FedByte}
use Rattle.csv_records.specs.StepLaws.{sets_next}
use Rattle.csv_records.specs.Bare.{in_phase, ready, Silent, RecordTurn, NumberRead, InPlace, Closes, FieldTaken}

-- ---- bytes that store nothing

pub silent_none : (s : Reader) (bytes : List ℕ) (i : ℕ) → Silent s s bytes i i
silent_none s bytes i = record { state = refl; stored = refl }

pub silent_then : {s t u : Reader} {bytes : List ℕ} {i j k : ℕ} → Silent s t bytes i j → Silent t u bytes j k → Silent s u bytes i k
silent_then f g = record { state = g.state ∙ f.state; stored = g.stored ∙ f.stored }

-- a byte above the comma ends no field
inside : (b : ℕ) → 44 < b → ends b ≡ false
inside b h = rw (ne_eqb b 44 (λ z. omega arith), ne_eqb b 10 (λ z. omega arith), ne_eqb b 13 (λ z. omega arith))

fed_inside : (s : Reader) (b : ℕ) → s.record_no < s.limit → 44 < b → feed_byte s b ≡ in_phase s (phase_after s.most s.below s.phase b)
unfolding feed_byte
fed_inside s b g h = rw (lt-leb s.limit s.record_no g, inside b h)

none_inside : (s : Reader) (b : ℕ) → s.record_no < s.limit → 44 < b → emits s b ≡ []
unfolding emits
none_inside s b g h = rw (lt-leb s.limit s.record_no g, inside b h)

silent_fed : (s t : Reader) (bytes : List ℕ) (i : ℕ) → i < length bytes → t ≡ feed_byte s (get_or bytes i 0) → emits s (get_or bytes i 0) ≡ [] → Silent s t bytes i (i + 1)
unfolding feed_all emitted
silent_fed s t bytes i h f e = record { state = rw (add-one i, drop-cons bytes i 0 h, f); stored = rw (add-one i, drop-cons bytes i 0 h, f, e) }

-- it changes the phase alone
silent_byte : (s : Reader) (p : FieldPhase) (bytes : List ℕ) (i : ℕ) → i < length bytes → s.record_no < s.limit → 44 < get_or bytes i 0
    → phase_after s.most s.below s.phase (get_or bytes i 0) ≡ p → Silent s (in_phase s p) bytes i (i + 1)
silent_byte s p bytes i h g b e =
    silent_fed s (in_phase s p) bytes i h (sym (fed_inside s (get_or bytes i 0) g b ∙ ap (λ (q : FieldPhase). in_phase s q) e)) (none_inside s (get_or bytes i 0) g b)

-- a digit more
pub silent_digit : (s : Reader) (negative : Bool) (n : ℕ) (bytes : List ℕ) (i : ℕ) → i < length bytes → s.record_no < s.limit → 48 ≤ get_or bytes i 0 → get_or bytes i 0 ≤ 57
    → 0 < n → 10 * n + (get_or bytes i 0 - 48) ≤ cond negative s.below s.most
    → Silent (in_phase s (Number false negative n)) (in_phase s (Number false negative (10 * n + (get_or bytes i 0 - 48)))) bytes i (i + 1)
silent_digit s negative n bytes i h g l m z p =
    silent_byte (in_phase s (Number false negative n)) _ bytes i h g (omega arith) (digit_next s.most s.below negative n (get_or bytes i 0) l m z p)

pub ready_room : (s : Reader) → ready s ≡ true → s.record_no < s.limit
ready_room s r = ltb-true s.record_no s.limit (and_l (ltb s.record_no s.limit) (begins s.phase) r)

module _ (s : Reader) (bytes : List ℕ) (i : ℕ) (r : ready s ≡ true) where
  ready_after : (b : ℕ) → phase_after s.most s.below s.phase b ≡ field_begun s.most b
  ready_after b = begin_after s.most s.below s.phase b (and_r (ltb s.record_no s.limit) (begins s.phase) r)

  -- the first digit of a field
  pub silent_first : i < length bytes → 48 ≤ get_or bytes i 0 → get_or bytes i 0 ≤ 57 → get_or bytes i 0 - 48 ≤ s.most
      → Silent s (in_phase s (Number false false (get_or bytes i 0 - 48))) bytes i (i + 1)
  silent_first h l m p =
      silent_byte s _ bytes i h (ready_room s r) (omega arith) (ready_after (get_or bytes i 0) ∙ digit_first s.most (get_or bytes i 0) l m p)

  -- a minus and the first digit after it
  pub silent_minus : i + 1 < length bytes → get_or bytes i 0 ≡ 45 → 49 ≤ get_or bytes (i + 1) 0 → get_or bytes (i + 1) 0 ≤ 57 → get_or bytes (i + 1) 0 - 48 ≤ s.below
      → Silent s (in_phase s (Number false true (get_or bytes (i + 1) 0 - 48))) bytes i (i + 1 + 1)
  unfolding field_begun
  silent_minus h e l m p =
      let f : phase_after s.most s.below s.phase (get_or bytes i 0) ≡ Minus false = rw e (ready_after 45) in
      silent_then (silent_byte s (Minus false) bytes i (omega arith) (ready_room s r) (omega arith) f)
      (silent_byte (in_phase s (Minus false)) _ bytes (i + 1) h (ready_room s r) (omega arith) (digit_minus s.most s.below (get_or bytes (i + 1) 0) l m p))

-- ---- a bare number

-- digits that take a number on, in any reader whose type has the limit
digits_way : (s : Reader) (negative : Bool) (limit : ℕ) → s.record_no < s.limit → cond negative s.below s.most ≡ limit → (bytes : List ℕ) (k i n : ℕ) → length bytes ≤ i + k
    → Silent (in_phase s (Number false negative n)) (in_phase s (Number false negative (digits_from limit (drop i bytes) i n).value)) bytes i (digits_from limit (drop i bytes) i n).end
digits_way s negative limit g f bytes zero i n h = rw (digits_end limit bytes i n (omega arith)) (silent_none _ _ _)
digits_way s negative limit g f bytes (suc k) i n h = elim (dec_le (suc i) (length bytes)) [
  | yes l ↦ elim (which (takes_digit limit n (get_or bytes i 0))) [
    | inl e ↦ (let b = get_or bytes i 0 in
        let p : 48 ≤ b = leb-true 48 b (search and_l depth 14) in
        let q : b ≤ 57 = leb-true b 57 (search (and_l, and_r) depth 14) in
        let z : 0 < n = ltb-true 0 n (search (and_l, and_r) depth 14) in
        let t : n < limit / 10 = ltb-true n (limit / 10) (search (and_l, and_r) depth 14) in
        rw (digits_on limit bytes i n l e)
        (silent_then (silent_digit s negative n bytes i l g p q z (omega (arith, f))) (digits_way s negative limit g f bytes k (i + 1) (10 * n + (b - 48)) (omega arith))))
    | inr e ↦ rw (digits_stop limit bytes i n l e) (silent_none _ _ _)
  ]
  | no l ↦ rw (digits_end limit bytes i n (omega arith)) (silent_none _ _ _)
]

module _ (s : Reader) (bytes : List ℕ) (i : ℕ) (r : ready s ≡ true) (u : BareNumber) where
  minus_numbered : get_or bytes i 0 ≡ 45 → (d : Option BareNumber) → d ≡ number_from 49 s.below bytes (i + 1) → option_map negated d ≡ Some u → NumberRead s bytes i u
  unfolding number_from
  minus_numbered f d p q = elim (which (ltb (i + 1) (length bytes) && first 49 s.below (get_or bytes (i + 1) 0))) [
    | inl e ↦ (let b = get_or bytes (i + 1) 0 in
        let l : i + 1 < length bytes = ltb-true (i + 1) (length bytes) (search and_l depth 14) in
        let k : 49 ≤ b = leb-true 49 b (search (and_l, and_r) depth 14) in
        let g : b ≤ 57 = leb-true b 57 (search (and_l, and_r) depth 14) in
        let m : b - 48 ≤ s.below = leb-true (b - 48) s.below (search (and_l, and_r) depth 14) in
        let v = digits_from s.below (drop (i + 1 + 1) bytes) (i + 1 + 1) (b - 48) in
        let z : d ≡ Some v = rw e at p in
        let x : Some (negated v) ≡ Some u = rw z at q in
        let y : negated v ≡ u = cc in
        rw (← y)
        (record {
          negative = true;
          size = v.value;
          value = refl;
          way = silent_then (silent_minus s bytes i r l f k g m) (digits_way s true s.below (ready_room s r) refl bytes (length bytes) (i + 1 + 1) (b - 48) (omega arith));
          on = omega (arith, digits_reach s.below (drop (i + 1 + 1) bytes) (i + 1 + 1) (b - 48));
        }))
    | inr e ↦ (let z : d ≡ None = rw e at p in cc)
  ]

  digit_numbered : number_from 48 s.most bytes i ≡ Some u → NumberRead s bytes i u
  unfolding number_from
  digit_numbered q = elim (which (ltb i (length bytes) && first 48 s.most (get_or bytes i 0))) [
    | inl e ↦ (let b = get_or bytes i 0 in
        let l : i < length bytes = ltb-true i (length bytes) (search and_l depth 14) in
        let k : 48 ≤ b = leb-true 48 b (search (and_l, and_r) depth 14) in
        let g : b ≤ 57 = leb-true b 57 (search (and_l, and_r) depth 14) in
        let m : b - 48 ≤ s.most = leb-true (b - 48) s.most (search (and_l, and_r) depth 14) in
        let v = digits_from s.most (drop (i + 1) bytes) (i + 1) (b - 48) in
        let z : Some v ≡ Some u = rw e at q in
        let y : v ≡ u = cc in
        rw (← y)
        (record {
          negative = false;
          size = v.value;
          value = refl;
          way = silent_then (silent_first s bytes i r l k g m) (digits_way s false s.most (ready_room s r) refl bytes (length bytes) (i + 1) (b - 48) (omega arith));
          on = omega (arith, digits_reach s.most (drop (i + 1) bytes) (i + 1) (b - 48));
        }))
    | inr e ↦ (let z : None ≡ Some u = rw e at q in cc)
  ]

  -- a field that is taken whole comes to its number
  pub bare_way : bare_from s.most s.below bytes i ≡ Some u → NumberRead s bytes i u
  unfolding bare_from
  bare_way q = elim (which (eqb (get_or bytes i 0) 45)) [
    | inl e ↦ minus_numbered (eqb-true (get_or bytes i 0) 45 e) (number_from 49 s.below bytes (i + 1)) refl (rw e at q)
    | inr e ↦ digit_numbered (rw e at q)
  ]

-- what ends it in its place
module _ (left : ℕ) (bytes : List ℕ) (end last : ℕ) where
  record_closes : end < length bytes → left ≡ 0 → cond (eqb (get_or bytes end 0) 10) (Some end) (cond (returns bytes end) (Some (end + 1)) None) ≡ Some last
      → (end ≤ last) × (last < length bytes) × Closes left bytes end last
  record_closes l z p = elim (which (eqb (get_or bytes end 0) 10)) [
    | inl e ↦ (let g : Some end ≡ Some last = rw e at p in
        let f : last ≡ end = cc in
        (omega arith, omega arith, inl (f, inr (eqb-true (get_or bytes end 0) 10 e, z))))
    | inr e ↦ elim (which (returns bytes end)) [
      | inl g ↦ (let k : Some (end + 1) ≡ Some last = rw (e, g) at p in
          let f : last ≡ end + 1 = cc in
          let n : end + 1 < length bytes = ltb-true (end + 1) (length bytes) (search and_l depth 14) in
          let c : get_or bytes end 0 ≡ 13 = eqb-true (get_or bytes end 0) 13 (search (and_l, and_r) depth 14) in
          let d : get_or bytes (end + 1) 0 ≡ 10 = eqb-true (get_or bytes (end + 1) 0) 10 (search (and_l, and_r) depth 14) in
          (omega arith, omega arith, inr (f, c, rw f d, z)))
      | inr g ↦ (let k : None ≡ Some last = rw (e, g) at p in cc)
    ]
  ]

  pub end_closes : end_from left bytes end ≡ Some last → (end ≤ last) × (last < length bytes) × Closes left bytes end last
  unfolding end_from
  end_closes p = elim (which (ltb end (length bytes))) [
    | inl e ↦ (let l : end < length bytes = ltb-true end (length bytes) e in
        elim (which (eqb (get_or bytes end 0) 44)) [
          | inl c ↦ elim (which (ltb 0 left)) [
            | inl d ↦ (let g : Some end ≡ Some last = rw (e, c, d) at p in
                let f : last ≡ end = cc in
                (omega arith, omega arith, inl (f, inl (eqb-true (get_or bytes end 0) 44 c, ltb-true 0 left d))))
            | inr d ↦ (let k : None ≡ Some last = rw (e, c, d) at p in cc)
          ]
          | inr c ↦ elim (which (ltb 0 left)) [
            | inl d ↦ (let k : None ≡ Some last = rw (e, c, d) at p in cc)
            | inr d ↦ record_closes l (omega (arith, ltb-false 0 left d)) (rw (e, c, d) at p)
          ]
        ])
    | inr e ↦ (let k : None ≡ Some last = rw e at p in cc)
  ]

-- ---- turns

pub turn_none : (s : Reader) (bytes out : List ℕ) (i : ℕ) → RecordTurn s s bytes out out i i
turn_none s bytes out i = record { state = refl; stored = refl; lengths = refl }

pub turn_then : {s t u : Reader} {bytes out mid left : List ℕ} {i j k : ℕ} → RecordTurn s t bytes out mid i j → RecordTurn t u bytes mid left j k → RecordTurn s u bytes out left i k
turn_then f g = record { state = g.state ∙ f.state; stored = g.stored ∙ f.stored; lengths = g.lengths ∙ f.lengths }

-- a byte
pub turn : (s t : Reader) (bytes out left : List ℕ) (i : ℕ) → i < length bytes → length out ≤ most64 → FedByte s (get_or bytes i 0) out t left → RecordTurn s t bytes out left i (i + 1)
unfolding feed_all emitted
turn s t bytes out left i h g f = record {
  state = rw (add-one i, drop-cons bytes i 0 h, f.state);
  stored = rw (add-one i, drop-cons bytes i 0 h, f.state, f.stored) (sets_next out s (get_or bytes i 0) (emitted (feed_byte s (get_or bytes i 0)) (drop (suc i) bytes)) g);
  lengths = ap length f.stored ∙ length-sets out s.at (emits s (get_or bytes i 0));
}

-- bytes that store nothing, then others
turn_silent : {s t u : Reader} {bytes out left : List ℕ} {i j k : ℕ} → t.at ≡ s.at → Silent s t bytes i j → RecordTurn t u bytes out left j k → RecordTurn s u bytes out left i k
turn_silent {s} {t} {u} {bytes} {out} {left} {i} {j} {k} e f g = record {
  state = g.state ∙ f.state;
  stored = g.stored ∙ (ap (λ (a : ℕ). sets out a (emitted t (drop j bytes))) e ∙ ap (λ (w : List ℕ). sets out s.at w) f.stored);
  lengths = g.lengths;
}

-- ---- a field that is a bare number, with the comma or LF that ends it

fed_number : (s : Reader) (negative : Bool) (n b : ℕ) (out : List ℕ) → s.record_no < s.limit → InPlace s.left b
    → FedByte (in_phase s (Number false negative n)) b out (passed s b (count_up s.at)) (set out s.at (encoded negative n))
unfolding feed_byte field_end passed taken decimal_of emits field_emits numbers_of
fed_number s negative n b out g (inl e) = record {
  state = rw (lt-leb s.limit s.record_no g, e.0, lt-ltb 0 s.left e.1);
  stored = rw (lt-leb s.limit s.record_no g, e.0, lt-ltb 0 s.left e.1);
}
fed_number s negative n b out g (inr e) = record {
  state = rw (lt-leb s.limit s.record_no g, e.0, e.1);
  stored = rw (lt-leb s.limit s.record_no g, e.0, e.1);
}

-- the CR that ends a record's last field, and the LF after it
fed_cr : (s : Reader) (negative : Bool) (n : ℕ) (out : List ℕ) → s.record_no < s.limit → s.left ≡ 0
    → FedByte (in_phase s (Number false negative n)) 13 out (passed s 13 (count_up s.at)) (set out s.at (encoded negative n))
unfolding feed_byte field_end passed taken decimal_of emits field_emits numbers_of
fed_cr s negative n out g e = record { state = rw (lt-leb s.limit s.record_no g, e); stored = rw (lt-leb s.limit s.record_no g, e) }

fed_lf : (s : Reader) (at : ℕ) (out : List ℕ) → s.record_no < s.limit → s.left ≡ 0 → FedByte (passed s 13 at) 10 out (passed s 10 at) out
unfolding feed_byte field_end passed decimal_of emits field_emits numbers_of
fed_lf s at out g e = record { state = rw (lt-leb s.limit s.record_no g); stored = rw (lt-leb s.limit s.record_no g, e) }

module _ (s : Reader) (bytes out : List ℕ) (i : ℕ) (u : BareNumber) (k : length out ≤ most64) (r : ready s ≡ true) (w : NumberRead s bytes i u) where
  -- the number, then a byte that is fed to it
  turn_number : (b : ℕ) → u.end < length bytes → get_or bytes u.end 0 ≡ b
      → FedByte (in_phase s (Number false w.negative w.size)) b out (passed s b (count_up s.at)) (set out s.at (encoded w.negative w.size))
      → RecordTurn s (passed s b (count_up s.at)) bytes out (set out s.at u.value) i (u.end + 1)
  turn_number b h e f =
      rw w.value (turn_silent refl w.way (turn (in_phase s (Number false w.negative w.size)) _ bytes out _ u.end h k (rw e f)))

  pub turn_field : (last : ℕ) → last < length bytes → Closes s.left bytes u.end last
      → RecordTurn s (passed s (get_or bytes last 0) (count_up s.at)) bytes out (set out s.at u.value) i (last + 1)
  turn_field last h (inl e) =
      rw e.0 (turn_number (get_or bytes u.end 0) (omega (arith, e.0)) refl (fed_number s w.negative w.size (get_or bytes u.end 0) out (ready_room s r) e.1))
  turn_field last h (inr e) =
      let l : length (set out s.at u.value) ≤ most64 = rw (length-set out s.at u.value) k in
      let f = turn_number 13 (omega (arith, e.0)) e.1 (fed_cr s w.negative w.size out (ready_room s r) e.3) in
      let t : FedByte (passed s 13 (count_up s.at)) (get_or bytes (u.end + 1) 0) (set out s.at u.value) (passed s 10 (count_up s.at)) (set out s.at u.value) = rw (← e.0, e.2) (fed_lf s (count_up s.at) (set out s.at u.value) (ready_room s r) e.3) in
      rw (e.2, e.0) (turn_then f (turn (passed s 13 (count_up s.at)) (passed s 10 (count_up s.at)) bytes (set out s.at u.value) (set out s.at u.value) (u.end + 1) (omega (arith, e.0)) l t))

pub field_taken : (s : Reader) (bytes : List ℕ) (i : ℕ) → ready s ≡ true → (u : BareNumber) → bare_from s.most s.below bytes i ≡ Some u → (last : ℕ) → end_from s.left bytes u.end ≡ Some last
    → FieldTaken s bytes i (record { end = last; value = u.value })
field_taken s bytes i r u e last f =
    let w = bare_way s bytes i r u e in
    let h = end_closes s.left bytes u.end last f in
    record { on = omega (arith, w.on, h.0); inside = h.1; turn = λ out k. turn_field s bytes out i u k r w last h.1 h.2 }
