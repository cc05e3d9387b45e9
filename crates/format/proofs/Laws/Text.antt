-- Texts as lists of lines, and the reader of lines on them.
use Rattle.std.specs.Prelude.{◌≡◌, refl, ◌↔◌, ℕ, zero, suc, true, not, length, eqb}
use Rattle.std.proofs.Common.{sym, ap, ap₂, ◌∙◌, inl, inr, arith}
use Rattle.std.proofs.lemmas.Bool.{false≢true}
use mathlib.Core.List.{List, [], ◌∷◌, ◌++◌, map, flat_map, map-append, append_assoc, append-nil}
use Rattle.meaning.specs.Rows.{table}
use Rattle.meaning.proofs.Laws.Rows.{and_l, and_r, and_both, flat_map_append}
use Rattle.meaning.specs.Programs.{Program, instructions, all, program_fits}
use Rattle.meaning.specs.declared.Operator.{Operator}
use Rattle.format.specs.declared.Line.{Line}
use Rattle.format.specs.declared.Line.TheVariants.{Header, Var, Block, EndVar, Says, EndProgram, Unknown}
use Rattle.format.specs.declared.Page.{Page}
use Rattle.format.specs.Text.{bytes, operator_text, line, block_line, declarations, text, AcceptedText}
use Rattle.format.specs.Automata.Lines.{line_text, line_fits, declared, program_lines, said, first_page, turn, turn_all, after_lines}
use Rattle.format.proofs.Laws.Lines.{all_append, one_line, said_line, line_said, said_fits, line_line}
use Rattle.format.proofs.Laws.Unique.{head_same, tail_same, program_same}
use Rattle.format.proofs.Laws.Turns.{standing_before, over_standing}
use Rattle.format.specs.Automata.Lines.{page_stands, over}
use Rattle.format.proofs.Laws.Pages.{SoundPage, first_sound, lines_program, program_lines_lem, can_close, all_sound}

-- ---- the text of a program as lines

-- one line more
pub lines_more : (ls : List (List ℕ)) (x y : List ℕ) → flat_map line (ls ++ (x ∷ [])) ++ y ≡ flat_map line ls ++ (line x ++ y)
unfolding flat_map
lines_more ls x y = ap (λ l. l ++ y) (flat_map_append line ls (x ∷ []) ∙ ap (λ l. flat_map line ls ++ l) (append-nil (line x))) ∙ append_assoc (flat_map line ls) (line x) y

says_text : (is : List Operator) → flat_map line (map line_text (map Says is)) ≡ flat_map (λ i. line (operator_text i)) is
unfolding flat_map line_text
says_text [] = refl
says_text (i ∷ is) = ap (λ l. line (operator_text i) ++ l) (says_text is)

blocks_text : (ns : List ℕ) → flat_map line (map line_text (map Block ns)) ≡ flat_map block_line ns
unfolding flat_map line_text block_line
blocks_text [] = refl
blocks_text (n ∷ ns) = ap (λ l. block_line n ++ l) (blocks_text ns)

text_append : (ts us : List Line) → flat_map line (map line_text (ts ++ us)) ≡ flat_map line (map line_text ts) ++ flat_map line (map line_text us)
text_append ts us = rw map-append (flat_map_append line (map line_text ts) (map line_text us))

declared_text : (d : ℕ) → flat_map line (map line_text (declared d)) ≡ declarations d
unfolding flat_map declared declarations line_text
declared_text zero = refl
declared_text (suc d) = ap (λ l. line (bytes "VAR") ++ l)
    (text_append (map Block (table (λ n. n) 1 (suc d))) (EndVar ∷ []) ∙ ap₂ ◌++◌ (blocks_text (table (λ n. n) 1 (suc d))) (append-nil (line (bytes "END_VAR"))))

pub text_lines : (p : Program) → text p ≡ flat_map line (map line_text (program_lines p))
unfolding text program_lines flat_map line_text
text_lines p = ap (λ l. line (bytes "PROGRAM CHART") ++ l) (sym (
    text_append (declared (length p.timers)) (map Says (instructions p) ++ (EndProgram ∷ []))
    ∙ ap₂ ◌++◌ (declared_text (length p.timers)) (text_append (map Says (instructions p)) (EndProgram ∷ []) ∙ ap₂ ◌++◌ (says_text (instructions p)) (append-nil (line (bytes "END_PROGRAM"))))
    ))

-- ---- a text is in lines in one way only

line_cut : (x y a b : List ℕ) → one_line x ≡ true → one_line y ≡ true → line x ++ a ≡ line y ++ b → (x ≡ y) × (a ≡ b)
unfolding one_line line all
line_cut [] [] a b f g e = (refl, tail_same e)
line_cut [] (d ∷ y) a b f g e = absurd (false≢true (rw (← head_same e) at (and_l (not (eqb d 10)) _ g)))
line_cut (c ∷ x) [] a b f g e = absurd (false≢true (rw (head_same e) at (and_l (not (eqb c 10)) _ f)))
line_cut (c ∷ x) (d ∷ y) a b f g e = let r = line_cut x y a b (and_r (not (eqb c 10)) _ f) (and_r (not (eqb d 10)) _ g) (tail_same e) in (ap₂ ◌∷◌ (head_same e) r.0, r.1)

line_some : (x l : List ℕ) → line x ++ l ≡ [] → ⊥
unfolding line
line_some [] l e = omega (arith, ap length e)
line_some (c ∷ x) l e = omega (arith, ap length e)

lines_front : (ls ms : List (List ℕ)) (more : List ℕ) → all one_line ls ≡ true → all one_line ms ≡ true → flat_map line ls ++ more ≡ flat_map line ms → (us : List (List ℕ)) × (ms ≡ ls ++ us) × (more ≡ flat_map line us)
unfolding all flat_map
lines_front [] ms more f g e = (ms, refl, e)
lines_front (x ∷ ls) [] more f g e = absurd (line_some x _ (sym (append_assoc (line x) (flat_map line ls) more) ∙ e))
lines_front (x ∷ ls) (y ∷ ms) more f g e =
    let c = line_cut x y (flat_map line ls ++ more) (flat_map line ms) (and_l (one_line x) _ f) (and_l (one_line y) _ g) (sym (append_assoc (line x) (flat_map line ls) more) ∙ e) in
    let r = lines_front ls ms more (and_r (one_line x) _ f) (and_r (one_line y) _ g) c.1 in
    (r.0, ap₂ ◌∷◌ (sym c.0) r.1, r.2)

lf_inside : (x l : List ℕ) → one_line (line x ++ l) ≡ true → ⊥
unfolding one_line line all
lf_inside [] l e = false≢true e
lf_inside (c ∷ x) l e = lf_inside x l (and_r (not (eqb c 10)) _ e)

-- what has no LF is no lines
no_lines : (us : List (List ℕ)) (r : List ℕ) → one_line r ≡ true → r ≡ flat_map line us → us ≡ []
unfolding flat_map
no_lines [] r f e = refl
no_lines (u ∷ us) r f e = absurd (lf_inside u (flat_map line us) (rw e at f))

pub lines_same : (ls ms : List (List ℕ)) → all one_line ls ≡ true → all one_line ms ≡ true → flat_map line ls ≡ flat_map line ms → ls ≡ ms
unfolding one_line all
lines_same ls ms f g e =
    let c = lines_front ls ms [] f g (append-nil (flat_map line ls) ∙ e) in
    sym (append-nil ls) ∙ ap (λ us. ls ++ us) (sym (no_lines c.0 [] refl c.2)) ∙ sym c.1

texts_line : (ts : List Line) → all one_line (map line_text ts) ≡ true
unfolding all
texts_line [] = refl
texts_line (t ∷ ts) = and_both _ _ (line_line t) (texts_line ts)

-- ---- the lines as they are said

pub after_said : (ls : List (List ℕ)) (s : Page) → after_lines s ls ≡ turn_all s (map said ls)
unfolding after_lines turn_all
after_said [] s = refl
after_said (l ∷ ls) s = after_said ls (turn s (said l))

pub after_lines_append : (ls ms : List (List ℕ)) (s : Page) → after_lines s (ls ++ ms) ≡ after_lines (after_lines s ls) ms
unfolding after_lines
after_lines_append [] ms s = refl
after_lines_append (l ∷ ls) ms s = after_lines_append ls ms (turn s (said l))

pub standing_lines : (ls : List (List ℕ)) (s : Page) → page_stands (after_lines s ls) ≡ true → page_stands s ≡ true
standing_lines ls s e = standing_before (map said ls) s (rw after_said at e)

-- what the reader of lines has not refused are lines that texts have
record Said (ls : List (List ℕ)) : Type 0 where
  known : all line_fits (map said ls) ≡ true
  texts : map line_text (map said ls) ≡ ls

pub said_known : (s : Page) (l : List ℕ) → page_stands (turn s (said l)) ≡ true → line_fits (said l) ≡ true
unfolding turn page_stands
said_known s l e = elim (said_fits l) [ inl u ↦ absurd (false≢true (rw u at e)) | inr f ↦ f ]

all_said : (ls : List (List ℕ)) (s : Page) → page_stands (after_lines s ls) ≡ true → Said ls
unfolding after_lines all
all_said [] s e = record { known = refl; texts = refl }
all_said (l ∷ ls) s e =
    let f = said_known s l (standing_lines ls (turn s (said l)) e) in
    let r = all_said ls (turn s (said l)) e in
    record { known = and_both _ _ f r.known; texts = ap₂ ◌∷◌ (line_said l (said l) refl f) r.texts }

said_texts : (ts : List Line) → all line_fits ts ≡ true → map said (map line_text ts) ≡ ts
unfolding all
said_texts [] f = refl
said_texts (t ∷ ts) f = ap₂ ◌∷◌ (said_line t (and_l (line_fits t) _ f)) (said_texts ts (and_r (line_fits t) _ f))

after_texts : (ts : List Line) (s : Page) → all line_fits ts ≡ true → after_lines s (map line_text ts) ≡ turn_all s ts
after_texts ts s f = after_said (map line_text ts) s ∙ ap (turn_all s) (said_texts ts f)

-- ---- the instructions of lines

-- the instructions among lines
unfoldable pub spoken : List Line → List Operator
spoken [] = []
spoken (Header ∷ ts) = spoken ts
spoken (Var ∷ ts) = spoken ts
spoken (Block n ∷ ts) = spoken ts
spoken (EndVar ∷ ts) = spoken ts
spoken (Says i ∷ ts) = i ∷ spoken ts
spoken (EndProgram ∷ ts) = spoken ts
spoken (Unknown ∷ ts) = spoken ts

spoken_blocks : (ns : List ℕ) (ts : List Line) → spoken (map Block ns ++ ts) ≡ spoken ts
unfolding spoken
spoken_blocks [] ts = refl
spoken_blocks (n ∷ ns) ts = spoken_blocks ns ts

spoken_declared : (d : ℕ) (ts : List Line) → spoken (declared d ++ ts) ≡ spoken ts
unfolding declared spoken
spoken_declared zero ts = refl
spoken_declared (suc d) ts = ap spoken (append_assoc (map Block (table (λ n. n) 1 (suc d))) (EndVar ∷ []) ts) ∙ spoken_blocks (table (λ n. n) 1 (suc d)) (EndVar ∷ ts)

spoken_says : (is : List Operator) → spoken (map Says is ++ (EndProgram ∷ [])) ≡ is
unfolding spoken
spoken_says [] = refl
spoken_says (i ∷ is) = ap (λ l. i ∷ l) (spoken_says is)

pub spoken_lines : (p : Program) → spoken (program_lines p) ≡ instructions p
unfolding program_lines spoken
spoken_lines p = spoken_declared (length p.timers) _ ∙ spoken_says (instructions p)

-- ---- the laws of lines

-- lines that are read to the end are a text, and say the instructions of its program
pub read_lines : (ls : List (List ℕ)) → over (after_lines first_page ls) ≡ true → (p : Program) × (program_fits p ≡ true) × (text p ≡ flat_map line ls) × (instructions p ≡ spoken (map said ls))
read_lines ls e =
    let r = all_said ls first_page (over_standing _ e) in
    let q = lines_program (map said ls) (record { known = r.known; ends = rw after_said at e }) in
    (q.0, q.1, text_lines q.0 ∙ ap (λ ts. flat_map line (map line_text ts)) q.2 ∙ ap (flat_map line) r.texts, sym (spoken_lines q.0) ∙ ap spoken q.2)

pub accepted_lines : (ls : List (List ℕ)) → all one_line ls ≡ true → AcceptedText (flat_map line ls) ↔ (over (after_lines first_page ls) ≡ true)
accepted_lines ls f = (there, λ e. (let q = read_lines ls e in (q.0, q.1, q.2)))
  where
    there : AcceptedText (flat_map line ls) → over (after_lines first_page ls) ≡ true
    there a =
        let r = program_lines_lem a.0 a.1 in
        let c = lines_same (map line_text (program_lines a.0)) ls (texts_line (program_lines a.0)) f (sym (text_lines a.0) ∙ a.2) in
        rw (← c, after_texts (program_lines a.0) first_page r.known) r.ends

-- whole lines go on to an accepted text exactly where the reader has not refused them
pub continues_lines : (ls : List (List ℕ)) → all one_line ls ≡ true → ((more : List ℕ) × AcceptedText (flat_map line ls ++ more)) ↔ (page_stands (after_lines first_page ls) ≡ true)
continues_lines ls f = (there, back)
  where
    there : (more : List ℕ) × AcceptedText (flat_map line ls ++ more) → page_stands (after_lines first_page ls) ≡ true
    there (more, a) =
        let r = program_lines_lem a.0 a.1 in
        let c = lines_front ls (map line_text (program_lines a.0)) more f (texts_line (program_lines a.0)) (sym a.2 ∙ text_lines a.0) in
        let e = sym (after_texts (program_lines a.0) first_page r.known) ∙ ap (after_lines first_page) c.1 ∙ after_lines_append ls c.0 first_page in
        standing_lines c.0 (after_lines first_page ls) (ap page_stands (sym e) ∙ over_standing _ r.ends)

    back : page_stands (after_lines first_page ls) ≡ true → (more : List ℕ) × AcceptedText (flat_map line ls ++ more)
    back e =
        let h = all_said ls first_page e in
        let z : SoundPage (after_lines first_page ls) = rw after_said (all_sound (map said ls) first_page h.known (rw after_said at e) first_sound) in
        let c = can_close (after_lines first_page ls) z e in
        let g = after_lines_append ls (map line_text c.0) first_page ∙ after_texts c.0 _ c.1.known in
        let a = (accepted_lines (ls ++ map line_text c.0) (all_append one_line ls (map line_text c.0) f (texts_line c.0))).1 (ap over g ∙ c.1.ends) in
        (flat_map line (map line_text c.0), rw (flat_map_append line ls (map line_text c.0)) at a)

-- "A last line without LF is one that no text has."
pub last_line : (ls : List (List ℕ)) (r : List ℕ) → all one_line ls ≡ true → one_line r ≡ true → AcceptedText (flat_map line ls ++ r) → r ≡ []
unfolding flat_map
last_line ls r f g a =
    let c = lines_front ls (map line_text (program_lines a.0)) r f (texts_line (program_lines a.0)) (sym a.2 ∙ text_lines a.0) in
    c.2 ∙ ap (flat_map line) (no_lines c.0 r g c.2)

-- ---- one program only

-- the program of a text is unique
pub text_same : (p q : Program) → program_fits p ≡ true → program_fits q ≡ true → text p ≡ text q → p ≡ q
text_same p q f g e =
    let c = lines_same (map line_text (program_lines p)) (map line_text (program_lines q)) (texts_line (program_lines p)) (texts_line (program_lines q)) (sym (text_lines p) ∙ e ∙ text_lines q) in
    let l = sym (said_texts (program_lines p) (program_lines_lem p f).known) ∙ ap (map said) c ∙ said_texts (program_lines q) (program_lines_lem q g).known in
    program_same p q f g (sym (spoken_lines p) ∙ ap spoken l ∙ spoken_lines q)
