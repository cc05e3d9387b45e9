-- What a reader of a text keeps from line to line, and what it may answer.
use Rattle.std.specs.Prelude.{◌≡◌, ◌⊎◌, ◌↔◌, ℕ, suc, ◌+◌, ◌≤◌, ◌<◌, true, false, length, get_or, take, drop, eqb}
use Rattle.std.proofs.Math.Path.{refl, sym, ap, ap₂}
use Rattle.std.proofs.Common.{◌∙◌, subst, inl, inr, arith, length-append, length-take, length-drop, take-append-drop, get_or-take, get_or-drop, take-take, take-suc, length-take-le, eqb-true, ne_eqb}
use mathlib.Core.List.{List, [], ◌∷◌, ◌++◌, map, flat_map, append_assoc, append-nil}
use Rattle.std.proofs.Math.Seq.{slice, take-length, split_at, take-append_seam, drop-append_seam}
use Rattle.std.proofs.lemmas.List.{drop-append-le}
use Rattle.meaning.proofs.Laws.Rows.{which, and_l, and_r, and_both, false_not, flat_map_append}
use Rattle.meaning.specs.Programs.{Program, instructions, all, program_fits}
use Rattle.format.specs.declared.Page.{Page}
use Rattle.format.specs.Text.{line, text, AcceptedText}
use Rattle.format.specs.Places.{TextPlace, WholeLines}
use Rattle.format.specs.Automata.Lines.{said, first_page, turn, after_lines}
use Rattle.format.proofs.Laws.Lines.{all_append, one_line}
use Rattle.format.specs.Automata.Lines.{page_stands, over}
use Rattle.format.proofs.Laws.Words.{place_same}
use Rattle.format.proofs.Laws.Text.{lines_more, after_lines_append, spoken, read_lines, accepted_lines}
use Rattle.format.proofs.Laws.TextPlaces.{line_cons, Stuck, unfinished, refused, text_place}

-- the first b bytes of l are lines, and they lead to page s
pub record Taken (l : List ℕ) (b : ℕ) (s : Page) : Type 0 where
  pub lines : List (List ℕ)
  pub whole : all one_line lines ≡ true
  pub within : b ≤ length l
  pub lists : flat_map line lines ≡ take b l
  pub page : after_lines first_page lines ≡ s
  pub stands : page_stands s ≡ true

-- the line from b up to the LF at e
pub slice_line : (l : List ℕ) (b e : ℕ) → b ≤ e → e < length l → get_or l e 0 ≡ 10 → drop b l ≡ line (slice b e l) ++ drop (suc e) l
slice_line l b e h k z =
    ap (drop b) (split_at l e 0 k ∙ ap (λ x. take e l ++ (x ∷ drop (suc e) l)) z)
    ∙ drop-append-le b (take e l) (10 ∷ drop (suc e) l) (let n = length-take-le e l (omega arith) in omega arith)
    ∙ sym (line_cons (slice b e l) (drop (suc e) l))

take_line : (l : List ℕ) (b e : ℕ) → b ≤ e → e < length l → get_or l e 0 ≡ 10 → take (suc e) l ≡ take b l ++ line (slice b e l)
unfolding line
take_line l b e h k z =
    take-suc l e 0 k ∙ ap (λ x. take e l ++ (x ∷ [])) z
    ∙ ap (λ x. x ++ (10 ∷ [])) (sym (take-append-drop b (take e l)) ∙ ap (λ x. x ++ slice b e l) (take-take b e l h))
    ∙ append_assoc (take b l) (slice b e l) (10 ∷ [])

one_line_of : (l : List ℕ) → ((i : ℕ) → i < length l → get_or l i 0 ≡ 10 → ⊥) → one_line l ≡ true
unfolding one_line all
one_line_of [] h = refl
one_line_of (b ∷ l) h = and_both _ _ (false_not (eqb b 10) (ne_eqb b 10 (h 0 (omega arith)))) (one_line_of l (λ i k. h (suc i) (omega arith)))

-- a part with no LF in it
pub slice_one_line : (l : List ℕ) (b e : ℕ) → ((i : ℕ) → b ≤ i → i < e → get_or l i 0 ≡ 10 → ⊥) → one_line (slice b e l) ≡ true
slice_one_line l b e h = one_line_of (slice b e l) (λ i k z.
    (let n = length-drop b (take e l) in
    let m = length-take e l in
    h (b + i) (omega arith) (omega arith) (sym (get_or-take e l (b + i) 0 (omega arith)) ∙ sym (get_or-drop b (take e l) i 0) ∙ z)))

pub drop_one_line : (l : List ℕ) (b : ℕ) → ((i : ℕ) → b ≤ i → i < length l → get_or l i 0 ≡ 10 → ⊥) → one_line (drop b l) ≡ true
drop_one_line l b h = one_line_of (drop b l) (λ i k z. (let n = length-drop b l in h (b + i) (omega arith) (omega arith) (sym (get_or-drop b l i 0) ∙ z)))

taken_place : {l : List ℕ} {b : ℕ} {s : Page} → Taken l b s → Stuck s (drop b l) → TextPlace l b
taken_place {l} {b} t k =
    let n : length (flat_map line t.lines) ≡ b = ap length t.lists ∙ length-take-le b l t.within in
    let e : flat_map line t.lines ++ drop b l ≡ l = ap (λ x. x ++ drop b l) t.lists ∙ take-append-drop b l in
    rw (n, e) at (text_place t.lines (drop b l) t.whole (rw t.page t.stands) (rw t.page k))

module _ {l : List ℕ} {b : ℕ} {s : Page} (t : Taken l b s) where
  module _ (e : ℕ) (h : b ≤ e) (k : e < length l) (z : get_or l e 0 ≡ 10) (f : one_line (slice b e l) ≡ true) where
    -- a line that the reader takes
    pub taken_line : page_stands (turn s (said (slice b e l))) ≡ true → (u : Taken l (suc e) (turn s (said (slice b e l)))) × (u.lines ≡ t.lines ++ (slice b e l ∷ []))
    unfolding all flat_map after_lines
    taken_line a = (
      record {
        lines = t.lines ++ (slice b e l ∷ []);
        whole = all_append one_line t.lines (slice b e l ∷ []) t.whole (and_both _ _ f refl);
        within = k;
        lists = flat_map_append line t.lines (slice b e l ∷ []) ∙ ap₂ ◌++◌ t.lists (append-nil (line (slice b e l))) ∙ sym (take_line l b e h k z);
        page = after_lines_append t.lines (slice b e l ∷ []) first_page ∙ ap (λ r. turn r (said (slice b e l))) t.page;
        stands = a;
      },
      refl,
    )

    -- a line that it refuses
    pub taken_refused : page_stands (turn s (said (slice b e l))) ≡ false → TextPlace l b
    taken_refused a = taken_place t (rw (slice_line l b e h k z) (refused (slice b e l) (drop (suc e) l) f a))

  -- no LF comes any more, and the text is not over
  pub taken_unfinished : one_line (drop b l) ≡ true → (b ≡ length l → over s ≡ false) → TextPlace l b
  taken_unfinished f a = taken_place t (unfinished f (λ e. a (let n = length-drop b l in let w = t.within in omega (arith, ap length e))))

  -- the text is over
  pub taken_over : b ≡ length l → over s ≡ true → (p : Program) × (program_fits p ≡ true) × (text p ≡ l) × (instructions p ≡ spoken (map said t.lines))
  taken_over n a =
      let q = read_lines t.lines (rw t.page a) in
      (q.0, q.1, q.2 ∙ t.lists ∙ ap (λ x. take x l) n ∙ take-length l, q.3)

-- ---- every text has its answer

-- a text in lines, and what is left behind the last LF
record Split (l : List ℕ) : Type 0 where
  lines : List (List ℕ)
  rest : List ℕ
  whole : all one_line lines ≡ true
  last : one_line rest ≡ true
  lists : flat_map line lines ++ rest ≡ l

-- a byte that is no LF, in front
split_by : {l : List ℕ} (b : ℕ) → eqb b 10 ≡ false → (ls : List (List ℕ)) (r : List ℕ) → all one_line ls ≡ true → one_line r ≡ true → flat_map line ls ++ r ≡ l → Split (b ∷ l)
unfolding all one_line flat_map line
split_by b n [] r f g e = record { lines = []; rest = b ∷ r; whole = refl; last = and_both _ _ (false_not (eqb b 10) n) g; lists = ap (λ x. b ∷ x) e }
split_by b n (x ∷ ls) r f g e = record {
  lines = (b ∷ x) ∷ ls;
  rest = r;
  whole = and_both _ _ (and_both _ _ (false_not (eqb b 10) n) (and_l (one_line x) _ f)) (and_r (one_line x) _ f);
  last = g;
  lists = ap (λ y. b ∷ y) e;
}

split : (l : List ℕ) → Split l
unfolding all one_line flat_map line
split [] = record { lines = []; rest = []; whole = refl; last = refl; lists = refl }
split (b ∷ l) = let s = split l in elim (which (eqb b 10)) [
  | inl e ↦ record { lines = [] ∷ s.lines; rest = s.rest; whole = s.whole; last = s.last; lists = ap₂ ◌∷◌ (sym (eqb-true b 10 e)) s.lists }
  | inr e ↦ split_by b e s.lines s.rest s.whole s.last s.lists
]

-- the reader stops after k bytes, on some page, and may not go on
pub record StopsAt (l : List ℕ) (k : ℕ) : Type 0 where
  pub page : Page
  pub taken : Taken l k page
  pub stuck : Stuck page (drop k l)

taken_lines : (ls : List (List ℕ)) (r : List ℕ) → all one_line ls ≡ true → page_stands (after_lines first_page ls) ≡ true → Taken (flat_map line ls ++ r) (length (flat_map line ls)) (after_lines first_page ls)
taken_lines ls r f a = record {
  lines = ls;
  whole = f;
  within = (let n = length-append (flat_map line ls) r in omega arith);
  lists = sym (take-append_seam (flat_map line ls) r);
  page = refl;
  stands = a;
}

stops_lines : (ls : List (List ℕ)) (r : List ℕ) → all one_line ls ≡ true → page_stands (after_lines first_page ls) ≡ true → Stuck (after_lines first_page ls) r → StopsAt (flat_map line ls ++ r) (length (flat_map line ls))
stops_lines ls r f a k = record { page = after_lines first_page ls; taken = taken_lines ls r f a; stuck = rw drop-append_seam k }

abbrev pub Decided : List ℕ → Type 0
Decided l = AcceptedText l ⊎ ((k : ℕ) × StopsAt l k)

decided_rest : (ls : List (List ℕ)) (r : List ℕ) → all one_line ls ≡ true → one_line r ≡ true → page_stands (after_lines first_page ls) ≡ true → Decided (flat_map line ls ++ r)
decided_rest ls [] f g a = elim (which (over (after_lines first_page ls))) [
  | inl o ↦ inl (rw append-nil ((accepted_lines ls f).1 o))
  | inr o ↦ inr (_, stops_lines ls [] f a (unfinished g (λ _. o)))
]
decided_rest ls (b ∷ r) f g a = inr (_, stops_lines ls (b ∷ r) f a (unfinished g (λ e. absurd (omega (arith, ap length e)))))

decided_lines : (ms ls : List (List ℕ)) (r : List ℕ) → all one_line ls ≡ true → all one_line ms ≡ true → one_line r ≡ true → page_stands (after_lines first_page ls) ≡ true → Decided (flat_map line ls ++ (flat_map line ms ++ r))
unfolding all flat_map after_lines
decided_lines [] ls r f m g a = decided_rest ls r f g a
decided_lines (x ∷ ms) ls r f m g a =
    let z = sym (append_assoc (line x) (flat_map line ms) r) in
    let n = and_l (one_line x) _ m in
    elim (which (page_stands (turn (after_lines first_page ls) (said x)))) [
      | inl e ↦ (let c = decided_lines ms (ls ++ (x ∷ [])) r (all_append one_line ls (x ∷ []) f (and_both _ _ n refl)) (and_r (one_line x) _ m) g (rw after_lines_append e) in
          subst Decided (lines_more ls x (flat_map line ms ++ r) ∙ ap (λ l. flat_map line ls ++ l) z) c)
      | inr e ↦ subst Decided (ap (λ l. flat_map line ls ++ l) z) (inr (_, stops_lines ls (line x ++ (flat_map line ms ++ r)) f a (refused x _ n e)))
    ]

-- every text is accepted, or the reader stops
pub text_decided : (l : List ℕ) → Decided l
unfolding all flat_map after_lines page_stands first_page
text_decided l = let s = split l in rw s.lists at (decided_lines s.lines [] s.rest refl s.whole s.last refl)

-- the place of a text that is not accepted is where the reader stops
pub text_stops : (l : List ℕ) (k : ℕ) → TextPlace l k ↔ StopsAt l k
text_stops l k = (there, λ s. taken_place s.taken s.stuck)
  where
    there : TextPlace l k → StopsAt l k
    there p = elim (text_decided l) [
      | inl a ↦ absurd (p.refused a)
      | inr s ↦ (let e = place_same AcceptedText (WholeLines l) l s.0 k (taken_place s.1.taken s.1.stuck) p in rw e at s.1)
    ]
