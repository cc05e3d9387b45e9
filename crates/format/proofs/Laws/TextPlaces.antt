-- The place of TEXT in a text: the first line that the reader refuses, or the end.
use Rattle.std.specs.Prelude.{◌≡◌, refl, ℕ, zero, suc, ◌+◌, ◌-◌, ◌≤◌, ◌<◌, true, false, not, length, get_or, take, eqb}
use Rattle.std.proofs.Common.{sym, ap, ap₂, ◌∙◌, arith, length-append, get_or-append-add, eq-eqb}
use Rattle.std.proofs.Math.Decide.{dec_le}
use Rattle.std.proofs.Math.Bool.{true≢false}
use mathlib.Core.List.{List, [], ◌∷◌, ◌++◌, flat_map, append_assoc, append-nil}
use Rattle.std.proofs.Math.ListN.{get_or-append}
use Rattle.std.proofs.Math.Seq.{take-append_seam, take-append-add, get_or-append_seam}
use Rattle.meaning.proofs.Laws.Rows.{and_l, and_r, and_both, true_not}
use Rattle.meaning.specs.Programs.{all}
use Rattle.format.specs.declared.Page.{Page}
use Rattle.format.specs.Text.{line, AcceptedText}
use Rattle.format.specs.Places.{TextPlace}
use Rattle.format.specs.Automata.Lines.{said, first_page, turn, after_lines}
use Rattle.format.proofs.Laws.Lines.{all_append, one_line}
use Rattle.format.specs.Automata.Lines.{page_stands, over}
use Rattle.format.proofs.Laws.Text.{lines_more, after_lines_append, accepted_lines, continues_lines, last_line}

-- a byte of a line is no LF
one_line_at : (l : List ℕ) (i : ℕ) → one_line l ≡ true → i < length l → get_or l i 0 ≡ 10 → ⊥
unfolding one_line all
one_line_at [] i f h e = omega arith
one_line_at (b ∷ l) zero f h e = true≢false (sym (and_l (not (eqb b 10)) _ f) ∙ true_not (eqb b 10) (eq-eqb b 10 e))
one_line_at (b ∷ l) (suc i) f h e = one_line_at l i (and_r (not (eqb b 10)) _ f) (omega arith) e

length_line : (x : List ℕ) → length (line x) ≡ suc (length x)
unfolding line
length_line x = length-append x (10 ∷ []) ∙ omega arith

-- lines end in LF
pub line_cons : (x l : List ℕ) → line x ++ l ≡ x ++ (10 ∷ l)
unfolding line
line_cons x l = append_assoc x (10 ∷ []) l

last_lf : (ls : List (List ℕ)) (r : List ℕ) (i : ℕ) → suc i ≡ length (flat_map line ls) → get_or (flat_map line ls ++ r) i 0 ≡ 10
unfolding flat_map
last_lf [] r i e = absurd (omega arith)
last_lf (x ∷ ls) r i e =
    let n = length_line x in
    let m = length-append (line x) (flat_map line ls) in
    let a = append_assoc (line x) (flat_map line ls) r in
    elim (dec_le (suc (length x)) i) [
      | yes h ↦ (let z : i ≡ length (line x) + (i - length (line x)) = omega arith in
          ap₂ (λ l k. get_or l k 0) a z ∙ get_or-append-add (line x) (flat_map line ls ++ r) (i - length (line x)) 0 ∙ last_lf ls r (i - length (line x)) (omega arith))
      | no h ↦ (let z : i ≡ length x = omega arith in ap₂ (λ l k. get_or l k 0) (a ∙ line_cons x (flat_map line ls ++ r)) z ∙ get_or-append_seam x 10 (flat_map line ls ++ r) 0)
    ]

-- why the reader goes no further than the lines ls, with r behind them
pub data Stuck (s : Page) : List ℕ → Type 0 where
  -- no LF comes any more, and the text may not end here
  unfinished : {r : List ℕ} → one_line r ≡ true → (r ≡ [] → over s ≡ false) → Stuck s r
  -- the next line is refused
  refused : (x r : List ℕ) → one_line x ≡ true → page_stands (turn s (said x)) ≡ false → Stuck s (line x ++ r)

module _ (ls : List (List ℕ)) (whole : all one_line ls ≡ true) where
  -- one line more is not the front of a text
  refused_line : (x : List ℕ) → one_line x ≡ true → page_stands (turn (after_lines first_page ls) (said x)) ≡ false → (more : List ℕ) → AcceptedText (flat_map line ls ++ (line x ++ more)) → ⊥
  unfolding after_lines flat_map all
  refused_line x f b more a =
      let h = (continues_lines (ls ++ (x ∷ [])) (all_append one_line ls (x ∷ []) whole (and_both _ _ f refl))).0 (more, rw (← lines_more ls x more) at a) in
      true≢false (sym (rw after_lines_append at h) ∙ b)

  not_accepted : (r : List ℕ) → Stuck (after_lines first_page ls) r → AcceptedText (flat_map line ls ++ r) → ⊥
  not_accepted r (unfinished f b) a =
      let e = last_line ls r whole f a in
      true≢false (sym ((accepted_lines ls whole).0 (rw (e, append-nil) at a)) ∙ b e)
  not_accepted _ (refused x r f b) a = refused_line x f b r a

  -- no longer front in whole lines goes on
  no_longer : (r : List ℕ) (m : ℕ) → Stuck (after_lines first_page ls) r → suc m ≤ length r → get_or r m 0 ≡ 10 → (more : List ℕ) → AcceptedText (flat_map line ls ++ (take (suc m) r ++ more)) → ⊥
  no_longer r m (unfinished f b) h e more a = one_line_at r m f h e
  no_longer _ m (refused x r f b) h e more a = elim (dec_le (suc m) (length x)) [
    | yes k ↦ one_line_at x m f k (sym (get_or-append x (10 ∷ r) 0 m k) ∙ ap (λ l. get_or l m 0) (sym (line_cons x r)) ∙ e)
    | no k ↦ (let n = length_line x in
        let z : suc m ≡ length (line x) + (suc m - length (line x)) = omega arith in
        let c : take (suc m) (line x ++ r) ++ more ≡ line x ++ (take (suc m - length (line x)) r ++ more)
        = ap (λ k. take k (line x ++ r) ++ more) z ∙ ap (λ l. l ++ more) (take-append-add (line x) r (suc m - length (line x))) ∙ append_assoc (line x) _ more in
        refused_line x f b _ (rw c at a))
  ]

-- the place is where the lines end that the reader takes
pub text_place : (ls : List (List ℕ)) (r : List ℕ) → all one_line ls ≡ true → page_stands (after_lines first_page ls) ≡ true → Stuck (after_lines first_page ls) r → TextPlace (flat_map line ls ++ r) (length (flat_map line ls))
text_place ls r f a b = record {
  refused = not_accepted ls f r b;
  within = (let n = length-append (flat_map line ls) r in omega arith);
  whole = λ i e. last_lf ls r i e;
  before = (let c = (continues_lines ls f).1 a in (c.0, rw take-append_seam c.1));
  after = λ j h k w c. (
      let n = length-append (flat_map line ls) r in
      let m : ℕ = j - length (flat_map line ls) - 1 in
      let z : j ≡ length (flat_map line ls) + suc m = omega arith in
      let y : j - 1 ≡ length (flat_map line ls) + m = omega arith in
      let e = w (j - 1) (omega arith) in
      no_longer ls f r m b (omega arith) (sym (get_or-append-add (flat_map line ls) r m 0) ∙ ap (λ i. get_or (flat_map line ls ++ r) i 0) (sym y) ∙ e) c.0
      (rw append_assoc at (rw (z, take-append-add) at c.1))
      );
}
