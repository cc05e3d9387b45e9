-- A file, record after record, from a fresh reader to its answer.
use Rattle.meaning.specs.Refusals.{Answer}
use Rattle.std.specs.Prelude.{◌≡◌, ◌&&◌, not, cond, leb, ltb, eqb, Ok, Err, Some, None, Option}
use Rattle.std.proofs.Math.Path.{refl, sym, ap}
use Rattle.std.proofs.Common.{◌∙◌, arith, add-one, lt-ltb, le-leb, leb-true, leb-false, ltb-false, ltb-true, eqb-true}
use Rattle.std.proofs.Math.Logic.{inl, inr}
use Prim.Native.Nat.{ℕ, suc, ◌≤◌, ◌<◌}
use Rattle.std.proofs.Math.Bool.{true, false}
use Rattle.std.proofs.lemmas.Bool.{false≢true, not-true}
use mathlib.Core.List.{List, [], ◌∷◌, ◌++◌, flat_map, append_assoc, append-nil}
use Rattle.std.proofs.Math.ListN.{length}
use Rattle.meaning.specs.Programs.{all}
use Rattle.meaning.proofs.Laws.Rows.{which, and_l, and_r}
use Rattle.meaning.specs.declared.Refusal.TheVariants as R
use Rattle.format.specs.Records.{front, pieces, without_cr, ended_records}
use Rattle.format.proofs.Laws.Lines.{one_line}
use Rattle.csv_field.specs.declared.FieldPhase.TheVariants.{Fresh, Bad}
use Rattle.csv_cursor.specs.declared.Reader.{Reader}
use Rattle.csv_field.specs.Field.{most64}
use Rattle.csv_value.specs.Decimals.{decimal_of, untouched}
use Rattle.csv_cursor.specs.Passing.{count_up, reader_with, bad, ends, separator_fits, passed}
use Rattle.csv_records.specs.Automaton.{taken, field_end, feed_byte, emits, feed_all, emitted, at_end, answer_of}
use Rattle.csv_records.specs.StepLaws.{fresh_emits_lf}
use Rattle.csv_records.specs.Pieces.{feed_append, emitted_append}
use Rattle.csv_records.specs.Lines.{pieces_cons, trimmed, rest_passes, rest_numbers, RecordPassed, Failed, record_closed, after_live, bad_byte, line}

-- ---- the bytes of a file by its LFs

unfoldable pub joined_by_lf : List (List ℕ) → List ℕ
joined_by_lf [] = []
joined_by_lf (p ∷ []) = p
joined_by_lf (p ∷ q ∷ ps) = p ++ (10 ∷ joined_by_lf (q ∷ ps))

joined_front : (b : ℕ) (p : List ℕ) (ps : List (List ℕ)) → joined_by_lf ((b ∷ p) ∷ ps) ≡ b ∷ joined_by_lf (p ∷ ps)
unfolding joined_by_lf
joined_front b p [] = refl
joined_front b p (q ∷ ps) = refl

pub joined_pieces_lem : (bs : List ℕ) → joined_by_lf (pieces 10 bs) ≡ bs
unfolding joined_by_lf pieces front
joined_pieces_lem [] = refl
joined_pieces_lem (b ∷ bs) = (let c = pieces_cons 10 bs in let ih : joined_by_lf (c.0 ∷ c.1) ≡ bs = rw c.2 at (joined_pieces_lem bs) in
    elim (which (eqb b 10)) [
      | inl e ↦ rw (e, c.2, ih, eqb-true b 10 e)
      | inr e ↦ rw (e, c.2, joined_front b c.0 c.1, ih)
    ])

front_plain : (b : ℕ) (ps : List (List ℕ)) → eqb b 10 ≡ false → all one_line ps ≡ true → all one_line (front b ps) ≡ true
unfolding one_line all front
front_plain b [] e h = rw e
front_plain b (p ∷ ps) e h = rw e h

pub plain_pieces : (bs : List ℕ) → all one_line (pieces 10 bs) ≡ true
unfolding one_line all pieces front
plain_pieces [] = refl
plain_pieces (b ∷ bs) = elim (which (eqb b 10)) [
  | inl e ↦ rw e (plain_pieces bs)
  | inr e ↦ rw e (front_plain b (pieces 10 bs) e (plain_pieces bs))
]

-- ---- a reader that has failed, or has no room for a record

abbrev pub reader_at : Reader → ℕ → ℕ → Reader
reader_at r k a = reader_with r Fresh k r.more a

over_byte : (s : Reader) (b : ℕ) → s.limit ≤ s.record_no → feed_byte s b ≡ bad s
unfolding feed_byte
over_byte s b h = rw (le-leb s.limit s.record_no h)

module _ (r : Reader) where
  abbrev dead : ℕ → ℕ → ℕ → Reader
  dead k l a = reader_with r Bad k l a

  dead_byte : (k l a b : ℕ) → feed_byte (dead k l a) b ≡ dead k l a
  dead_byte k l a b = elim (which (leb r.limit k)) [
    | inl e ↦ over_byte (dead k l a) b (leb-true r.limit k e)
    | inr e ↦ bad_byte (dead k l a) (leb-false r.limit k e) l a b
  ]

  dead_all : (bs : List ℕ) (k l a : ℕ) → feed_all (dead k l a) bs ≡ dead k l a
  unfolding feed_all
  dead_all [] k l a = refl
  dead_all (b ∷ bs) k l a = rw (dead_byte k l a b) (dead_all bs k l a)

  -- the answer of a reader that has failed
  dead_answer : (k l a : ℕ) → answer_of (at_end (dead k l a)) ≡ Err (R.Field k)
  unfolding at_end answer_of
  dead_answer k l a = rw (dead_byte k l a 10)

  over_all : (bs : List ℕ) (k a : ℕ) → r.limit ≤ k → (bs ≡ [] → ⊥) → feed_all (reader_at r k a) bs ≡ dead k r.more a
  unfolding feed_all
  over_all [] k a h n = absurd (n refl)
  over_all (b ∷ bs) k a h n = rw (over_byte (reader_at r k a) b h) (dead_all bs k r.more a)

-- ---- a record that has begun

passed_touched : (s : Reader) (b a : ℕ) → eqb b 10 ≡ false → ends b ≡ true → untouched (passed s b a).phase ≡ false
unfolding passed
passed_touched s b a e f = elim (which (eqb b 44)) [
  | inl g ↦ rw g
  | inr g ↦ elim (which (eqb b 13)) [ inl h ↦ rw (g, h) | inr h ↦ (let z : false ≡ true = rw (g, e, h) at f in absurd (false≢true z)) ]
]

taken_touched : (d : (Option ℕ)) (s : Reader) (b : ℕ) → eqb b 10 ≡ false → ends b ≡ true → untouched (taken d s b).phase ≡ false
unfolding taken
taken_touched (Some v) s b e f = passed_touched s b (count_up s.at) e f
taken_touched None s b e f = refl

byte_touched : (s : Reader) (b : ℕ) → eqb b 10 ≡ false → untouched (feed_byte s b).phase ≡ false
unfolding feed_byte field_end
byte_touched s b e = elim (which (leb s.limit s.record_no)) [
  | inl f ↦ rw f
  | inr f ↦ rw f (elim (which (ends b)) [
    | inr g ↦ rw g (after_live s.most s.below s.phase b).1
    | inl g ↦ rw (g, e) (elim (which (separator_fits s.left b)) [ inl h ↦ rw h (taken_touched (decimal_of s.phase) s b e g) | inr h ↦ rw h ])
  ])
]

touched : (q : List ℕ) (s : Reader) → one_line q ≡ true → untouched s.phase ≡ false → untouched (feed_all s q).phase ≡ false
unfolding feed_all one_line all
touched [] s h u = u
touched (b ∷ q) s h u = touched q (feed_byte s b) (and_r (not (eqb b 10)) (one_line q) h) (byte_touched s b (not-true (eqb b 10) (and_l (not (eqb b 10)) (one_line q) h)))

-- the end of the file after some bytes
end_closed : (s : Reader) → untouched s.phase ≡ false → at_end s ≡ record_closed false s
unfolding at_end record_closed
end_closed s u = rw u

end_line : (b : ℕ) (q : List ℕ) (s : Reader) → one_line (b ∷ q) ≡ true → at_end (feed_all s (b ∷ q)) ≡ record_closed false (feed_all s (b ∷ q))
unfolding feed_all one_line all
end_line b q s h = end_closed (feed_all (feed_byte s b) q)
    (touched q (feed_byte s b) (and_r (not (eqb b 10)) (one_line q) h) (byte_touched s b (not-true (eqb b 10) (and_l (not (eqb b 10)) (one_line q) h))))

-- ---- the file

-- what the records xs come to, the first of them being number k
unfoldable pub upshot : Reader → ℕ → List (List ℕ) → Answer
upshot r k [] = cond (ltb k r.least) (Err (R.Field k)) (Ok k)
upshot r k (x ∷ xs) = cond (ltb k r.limit && rest_passes r.most r.below Fresh r.more (pieces 44 x)) (upshot r (suc k) xs) (Err (R.Field k))

unfoldable pub record_numbers : Reader → List ℕ → List ℕ
record_numbers r x = rest_numbers r.most r.below Fresh (pieces 44 x)

pub record FileTold (r : Reader) (k a : ℕ) (bs : List ℕ) (xs : List (List ℕ)) : Type 0 where
  pub answer : answer_of (at_end (feed_all (reader_at r k a) bs)) ≡ upshot r k xs
  pub numbers : (n : ℕ) → upshot r k xs ≡ Ok n → emitted (reader_at r k a) bs ++ emits (feed_all (reader_at r k a) bs) 10 ≡ flat_map (record_numbers r) xs

module _ (r : Reader) (separator_fits : r.limit ≤ most64) where
  up_is : (k : ℕ) → k < r.limit → count_up k ≡ suc k
  up_is k h = rw (lt-ltb k most64 (omega arith)) (add-one k)

  told_none : (k a : ℕ) → FileTold r k a [] []
  unfolding feed_all emitted at_end answer_of upshot flat_map
  told_none k a = record { answer = refl; numbers = λ n e. fresh_emits_lf (reader_at r k a) refl }

  refused : (k a : ℕ) (bs : List ℕ) (xs : List (List ℕ)) → answer_of (at_end (feed_all (reader_at r k a) bs)) ≡ Err (R.Field k) → upshot r k xs ≡ Err (R.Field k) → FileTold r k a bs xs
  refused k a bs xs e f = record { answer = e ∙ sym f; numbers = λ n g. (let z : ◌≡◌ {A = ℕ} 0 1 = cc in absurd (omega arith)) }

  over : (k a : ℕ) (bs x : List ℕ) (xs : List (List ℕ)) → ltb k r.limit ≡ false → (bs ≡ [] → ⊥) → FileTold r k a bs (x ∷ xs)
  unfolding upshot
  over k a bs x xs e n = refused k a bs (x ∷ xs) (rw (over_all r bs k a (ltb-false k r.limit e) n) (dead_answer r k r.more a)) (rw e)

  -- record k does not pass
  failing : (k a : ℕ) (bs x : List ℕ) (xs : List (List ℕ)) → answer_of (at_end (feed_all (reader_at r k a) bs)) ≡ Err (R.Field k)
      → rest_passes r.most r.below Fresh r.more (pieces 44 x) ≡ false → ltb k r.limit ≡ true → FileTold r k a bs (x ∷ xs)
  unfolding upshot
  failing k a bs x xs e h g = refused k a bs (x ∷ xs) e (rw (g, h))

  last_passes : (k a b : ℕ) (q : List ℕ) → one_line (b ∷ q) ≡ true → ltb k r.limit ≡ true → rest_passes r.most r.below Fresh r.more (pieces 44 (b ∷ q)) ≡ true
      → RecordPassed (reader_at r k a) (record_closed false (feed_all (reader_at r k a) (b ∷ q))) (emitted (reader_at r k a) (b ∷ q) ++ emits (feed_all (reader_at r k a) (b ∷ q)) 10) (record_numbers r (b ∷ q))
      → FileTold r k a (b ∷ q) ((b ∷ q) ∷ [])
  unfolding upshot answer_of flat_map
  last_passes k a b q h e f o = record {
    answer = rw (end_line b q (reader_at r k a) h, e, f) (ap answer_of o.state ∙ rw (up_is k (ltb-true k r.limit e)));
    numbers = λ n z. o.numbers ∙ sym (append-nil (record_numbers r (b ∷ q)));
  }

  -- the last record, which the end of the file ends
  told_last : (k a b : ℕ) (q : List ℕ) → one_line (b ∷ q) ≡ true → FileTold r k a (b ∷ q) ((b ∷ q) ∷ [])
  unfolding trimmed answer_of record_numbers
  told_last k a b q h = elim (which (ltb k r.limit)) [
    | inr e ↦ over k a (b ∷ q) (b ∷ q) [] e (λ z. let y : suc (length q) ≡ 0 = ap length z in omega arith)
    | inl e ↦ (let o = line (reader_at r k a) (ltb-true k r.limit e) false (b ∷ q) h Fresh r.more a refl in
        elim (which (rest_passes r.most r.below Fresh r.more (pieces 44 (b ∷ q)))) [
          | inr f ↦ failing k a (b ∷ q) (b ∷ q) [] (rw (end_line b q (reader_at r k a) h) (ap answer_of (rw f at o))) f e
          | inl f ↦ last_passes k a b q h e f (rw f at o)
        ])
  ]

  some_bytes : (p rest : List ℕ) → p ++ (10 ∷ rest) ≡ [] → ⊥
  some_bytes [] rest e = (let y : suc (length rest) ≡ 0 = ap length e in omega arith)
  some_bytes (b ∷ p) rest e = (let y : suc (length (p ++ (10 ∷ rest))) ≡ 0 = ap length e in omega arith)

  -- a record that LF ends, then the others
  feed_line : (s : Reader) (p rest : List ℕ) → feed_all s (p ++ (10 ∷ rest)) ≡ feed_all (feed_byte (feed_all s p) 10) rest
  unfolding feed_all
  feed_line s p rest = feed_append s p (10 ∷ rest)

  emitted_line : (s : Reader) (p rest w : List ℕ)
      → emitted s (p ++ (10 ∷ rest)) ++ w ≡ (emitted s p ++ emits (feed_all s p) 10) ++ (emitted (feed_byte (feed_all s p) 10) rest ++ w)
  unfolding emitted
  emitted_line s p rest w = rw (emitted_append s p (10 ∷ rest)) (simp append_assoc)

  line_passes : (k a : ℕ) (p rest : List ℕ) (xs : List (List ℕ)) (s : Reader) → ltb k r.limit ≡ true → rest_passes r.most r.below Fresh r.more (pieces 44 (without_cr p)) ≡ true
      → s ≡ feed_byte (feed_all (reader_at r k a) p) 10
      → RecordPassed (reader_at r k a) s (emitted (reader_at r k a) p ++ emits (feed_all (reader_at r k a) p) 10) (record_numbers r (without_cr p))
      → ((n : ℕ) → FileTold r (suc k) n rest xs) → FileTold r k a (p ++ (10 ∷ rest)) (without_cr p ∷ xs)
  unfolding upshot flat_map
  line_passes k a p rest xs s e f g o ih =
      let m : feed_byte (feed_all (reader_at r k a) p) 10 ≡ reader_at r (suc k) s.at = sym g ∙ (o.state ∙ rw (up_is k (ltb-true k r.limit e))) in
      let t = ih s.at in
      record {
        answer = rw (feed_line (reader_at r k a) p rest, m, e, f) t.answer;
        numbers = λ n z. rw (feed_line (reader_at r k a) p rest, emitted_line (reader_at r k a) p rest, o.numbers, m) (ap (λ (l : List ℕ). record_numbers r (without_cr p) ++ l) (t.numbers n (rw (e, f) at z)));
      }

  line_fails : (k a : ℕ) (p rest : List ℕ) (s : Reader) → s ≡ feed_byte (feed_all (reader_at r k a) p) 10 → Failed (reader_at r k a) s
      → answer_of (at_end (feed_all (reader_at r k a) (p ++ (10 ∷ rest)))) ≡ Err (R.Field k)
  line_fails k a p rest s g f =
      let m : feed_byte (feed_all (reader_at r k a) p) 10 ≡ reader_with r Bad k s.left s.at = sym g ∙ f in
      rw (feed_line (reader_at r k a) p rest, m, dead_all r rest k s.left s.at) (dead_answer r k s.left s.at)

  told_more : (k a : ℕ) (p rest : List ℕ) (xs : List (List ℕ)) → one_line p ≡ true → ((n : ℕ) → FileTold r (suc k) n rest xs) → FileTold r k a (p ++ (10 ∷ rest)) (without_cr p ∷ xs)
  unfolding trimmed record_closed record_numbers
  told_more k a p rest xs h ih = elim (which (ltb k r.limit)) [
    | inr e ↦ over k a (p ++ (10 ∷ rest)) (without_cr p) xs e (some_bytes p rest)
    | inl e ↦ (let o = line (reader_at r k a) (ltb-true k r.limit e) true p h Fresh r.more a refl in
        elim (which (rest_passes r.most r.below Fresh r.more (pieces 44 (without_cr p)))) [
          | inr f ↦ failing k a (p ++ (10 ∷ rest)) (without_cr p) xs (line_fails k a p rest (feed_byte (feed_all (reader_at r k a) p) 10) refl (rw f at o)) f e
          | inl f ↦ line_passes k a p rest xs (feed_byte (feed_all (reader_at r k a) p) 10) e f refl (rw f at o) ih
        ])
  ]

  pub told_file : (ps : List (List ℕ)) → all one_line ps ≡ true → (k a : ℕ) → FileTold r k a (joined_by_lf ps) (ended_records ps)
  unfolding joined_by_lf ended_records all
  told_file [] h k a = told_none k a
  told_file ([] ∷ []) h k a = told_none k a
  told_file ((b ∷ q) ∷ []) h k a = told_last k a b q (and_l (one_line (b ∷ q)) true h)
  told_file (p ∷ q ∷ ps) h k a = told_more k a p (joined_by_lf (q ∷ ps)) (ended_records (q ∷ ps)) (and_l (one_line p) (all one_line (q ∷ ps)) h) (λ n. told_file (q ∷ ps) (and_r (one_line p) (all one_line (q ∷ ps)) h) (suc k) n)
