-- What the loop over the lines keeps, and that a pass has one outcome only.
use Rattle.std.specs.Prelude.{◌≡◌, refl, ℕ, ◌+◌, ◌-◌, ◌%◌, ◌≤◌, ◌<◌, true, false, take, drop, set, Ok, Err, Result}
use Rattle.std.proofs.Math.Path.{sym, ap}
use Rattle.std.proofs.Common.{ap₂, ◌∙◌, zero-add, add-one, arith, length-append, take-add, drop_at, length-take-le}
use Rattle.std.proofs.lemmas.Bool.{false≢true}
use mathlib.Core.List.{List, [], ◌∷◌, ◌++◌, map, flat_map, append-nil, map-append}
use Rattle.std.proofs.Math.ListN.{length}
use Rattle.std.proofs.lemmas.List.{length-map}
use Rattle.std.proofs.Math.Seq.{slice, length-sets}
use Rattle.std.proofs.lemmas.List.Edits.{sets}
use Rattle.meaning.proofs.Laws.Rows.{sets_append}
use Rattle.meaning.specs.Programs.{instructions, all}
use Rattle.meaning.specs.declared.Operator.{Operator}
use Rattle.format.specs.declared.Line.{Line}
use Rattle.format.specs.declared.Line.TheVariants.{Header, Var, Block, EndVar, Says, EndProgram, Unknown}
use Rattle.format.specs.declared.Page.{Page}
use Rattle.format.specs.Words.{word, words}
use Rattle.format.specs.Places.{TextPlace, WholeLines}
use Rattle.format.specs.Text.{AcceptedText}
use Rattle.format.specs.Decode.{operator_fits}
use Rattle.format.proofs.Laws.Decode.{word_small}
use Rattle.format.specs.Automata.Lines.{line_fits, said, first_page, turn, after_lines}
use Rattle.format.proofs.Laws.Lines.{one_line}
use Rattle.format.specs.Automata.Lines.{page_stands, over}
use Rattle.format.proofs.Laws.Words.{place_same}
use Rattle.format.proofs.Laws.Text.{spoken, text_same, said_known}
use Rattle.format.proofs.Laws.TextReader.{Taken, taken_refused, taken_unfinished, taken_over, slice_one_line, drop_one_line, taken_line}
use Rattle.read_pass.specs.Passes.{LineEnd, words_counted, placed, TextPassed, Pass}

-- ---- words

-- the words of the instructions, over the slice
abbrev written : List ℕ → List Operator → List ℕ
written entry is = sets entry 0 (map word is)

written_more : (entry : List ℕ) (is : List Operator) (i : Operator) → operator_fits i ≡ true → set (written entry is) (length is) (word i % 4294967296) ≡ written entry (is ++ (i ∷ []))
written_more entry is i f =
    let e : word i % 4294967296 ≡ word i = (let h = word_small i f in omega arith) in
    rw (e, map-append, sets_append, zero-add, length-map)

-- one line more
record Says1 (entry : List ℕ) (is : List Operator) (t : Line) : Type 0 where
  count : words_counted (length is) t ≡ length (is ++ spoken (t ∷ []))
  list : placed (written entry is) (length is) t ≡ written entry (is ++ spoken (t ∷ []))

counted_few : (n : ℕ) (t : Line) → words_counted n t ≤ n + 1
counted_few n Header = omega arith
counted_few n Var = omega arith
counted_few n (Block k) = omega arith
counted_few n EndVar = omega arith
counted_few n (Says i) = omega arith
counted_few n EndProgram = omega arith
counted_few n Unknown = omega arith

says_nothing : (entry : List ℕ) (is : List Operator) → (length is ≡ length (is ++ [])) × (written entry is ≡ written entry (is ++ []))
says_nothing entry is = rw append-nil (refl, refl)

says_one : (entry : List ℕ) (is : List Operator) (t : Line) → line_fits t ≡ true → Says1 entry is t
unfolding line_fits spoken
says_one entry is Header f = record { count = (says_nothing entry is).0; list = (says_nothing entry is).1 }
says_one entry is Var f = record { count = (says_nothing entry is).0; list = (says_nothing entry is).1 }
says_one entry is (Block n) f = record { count = (says_nothing entry is).0; list = (says_nothing entry is).1 }
says_one entry is EndVar f = record { count = (says_nothing entry is).0; list = (says_nothing entry is).1 }
says_one entry is (Says i) f = record { count = (let n = length-append is (i ∷ []) in omega arith); list = written_more entry is i f }
says_one entry is EndProgram f = record { count = (says_nothing entry is).0; list = (says_nothing entry is).1 }
says_one entry is Unknown f = absurd (false≢true f)

spoken_more : (ts : List Line) (t : Line) → spoken (ts ++ (t ∷ [])) ≡ spoken ts ++ spoken (t ∷ [])
unfolding spoken
spoken_more [] t = refl
spoken_more (Header ∷ ts) t = spoken_more ts t
spoken_more (Var ∷ ts) t = spoken_more ts t
spoken_more (Block n ∷ ts) t = spoken_more ts t
spoken_more (EndVar ∷ ts) t = spoken_more ts t
spoken_more (Says i ∷ ts) t = ap (λ l. i ∷ l) (spoken_more ts t)
spoken_more (EndProgram ∷ ts) t = spoken_more ts t
spoken_more (Unknown ∷ ts) t = spoken_more ts t

-- ---- the loop

-- the first b bytes of l are lines, they lead to page s, and the words of their n instructions stand in o
pub record Passing (l entry : List ℕ) (b : ℕ) (s : Page) (n : ℕ) (o : List ℕ) : Type 0 where
  pub taken : Taken l b s
  pub few : n ≤ b
  pub count : n ≡ length (spoken (map said taken.lines))
  pub list : o ≡ written entry (spoken (map said taken.lines))

pub passing_none : (l entry : List ℕ) (s : Page) → s ≡ first_page → Passing l entry 0 s 0 entry
unfolding all flat_map after_lines first_page page_stands spoken
passing_none l entry s e = rw e (record { taken = record { lines = []; whole = refl; within = omega arith; lists = refl; page = refl; stands = refl }; few = omega arith; count = refl; list = refl })

-- a part as the code makes it
part_slice : (l : List ℕ) (b e : ℕ) → b ≤ e → e ≤ length l → take (e - b) (drop b l) ≡ slice b e l
part_slice l b e h k =
    let z : e ≡ b + (e - b) = omega arith in
    sym (ap (λ j. drop b (take j l)) z ∙ ap (drop b) (take-add b (e - b) l) ∙ drop_at (take b l) (take (e - b) (drop b l)) b (length-take-le b l (omega arith)))

module _ {l entry : List ℕ} {b : ℕ} {s : Page} {n : ℕ} {o : List ℕ} (q : Passing l entry b s n o) where
  pub passing_length : length o ≡ length entry
  passing_length = ap length q.list ∙ length-sets entry 0 (map word (spoken (map said q.taken.lines)))

  module _ (e : ℕ) (h : LineEnd l b e) (k : e < length l) (t : Line) (part-t : t ≡ said (take (e - b) (drop b l))) where
    said_t : t ≡ said (slice b e l)
    said_t = part-t ∙ ap said (part_slice l b e h.after h.within)

    one_line_lem : one_line (slice b e l) ≡ true
    one_line_lem = slice_one_line l b e h.none

    goes_on_lem : page_stands (turn s (said (slice b e l))) ≡ true → Passing l entry (e + 1) (turn s (said (slice b e l))) (words_counted n (said (slice b e l))) (placed o n (said (slice b e l)))
    goes_on_lem a =
        let is = spoken (map said q.taken.lines) in
        let u = taken_line q.taken e h.after k (h.lf k) one_line_lem a in
        let m = says_one entry is (said (slice b e l)) (said_known s (slice b e l) a) in
        let g : is ++ spoken (said (slice b e l) ∷ []) ≡ spoken (map said u.0.lines) = rw (u.1, map-append, spoken_more) in
        rw add-one (record {
          taken = u.0;
          few = omega (arith, counted_few n (said (slice b e l)), q.few, h.after);
          count = ap (λ j. words_counted j (said (slice b e l))) q.count ∙ m.count ∙ ap length g;
          list = ap₂ (λ x j. placed x j (said (slice b e l))) q.list q.count ∙ m.list ∙ ap (written entry) g;
        })

    pub passing_line : {r : Page} {m : ℕ} {w : List ℕ} → r ≡ turn s t → page_stands r ≡ true → m ≡ words_counted n t → w ≡ placed o n t → Passing l entry (e + 1) r m w
    passing_line f a c d = rw (f, c, d, said_t) (goes_on_lem (rw (f, said_t) at a))

    stops_at : page_stands (turn s t) ≡ false → TextPlace l b
    stops_at a = taken_refused q.taken e h.after k (h.lf k) one_line_lem (rw said_t at a)

    pub passing_refused : {r : Page} → r ≡ turn s t → page_stands r ≡ false → TextPlace l b
    passing_refused f a = stops_at (rw f at a)

  -- "A last line without LF is one that no text has."
  pub passing_unfinished : LineEnd l b (length l) → b < length l → TextPlace l b
  passing_unfinished h k = taken_unfinished q.taken (drop_one_line l b h.none) (λ e. absurd (omega arith))

  pub passing_short : length l ≤ b → over s ≡ false → TextPlace l b
  passing_short k a = taken_unfinished q.taken (drop_one_line l b (λ i h j e. omega arith)) (λ e. a)

  pub passing_over : length l ≤ b → over s ≡ true → TextPassed l entry n o
  unfolding words
  passing_over k a =
      let w = q.taken.within in
      let p = taken_over q.taken (omega arith) a in
      record {
        program = p.0;
        fitting = p.1;
        listing = p.2;
        count = q.count ∙ ap length (sym p.3) ∙ sym (length-map (instructions p.0) word);
        few = omega (arith, q.few);
        list = q.list ∙ ap (written entry) (sym p.3);
      }

-- ---- no second outcome

pub pass_same : (l entry x y : List ℕ) (r q : Result ℕ ℕ) → Pass l entry r x → Pass l entry q y → r ≡ q
pass_same l entry x y (Ok n) (Ok m) p q = ap Ok (p.count ∙ ap (λ g. length (words g)) (text_same p.program q.program p.fitting q.fitting (p.listing ∙ sym q.listing)) ∙ sym q.count)
pass_same l entry x y (Ok n) (Err k) p q = absurd (q.refused (p.program, p.fitting, p.listing))
pass_same l entry x y (Err k) (Ok n) p q = absurd (p.refused (q.program, q.fitting, q.listing))
pass_same l entry x y (Err k) (Err j) p q = ap Err (place_same AcceptedText (WholeLines l) l k j p q)
