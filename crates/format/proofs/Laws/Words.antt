-- The reader of words tells which lists are accepted, which go on, and where the others go wrong.
use Rattle.format.specs.Decode.{Decoded}
use Rattle.std.specs.Prelude.{◌≡◌, refl, ◌↔◌, ℕ, suc, ◌≤◌, ◌<◌, true, false, ◌&&◌, List, [], ◌∷◌, ◌++◌, map, length, get_or, take, drop, leb, Some, None}
use Rattle.std.proofs.Common.{sym, ap, ap₂, ◌∙◌, arith, true≢false, take-append-drop, take-take, take-suc, leb-true}
use Rattle.std.proofs.Math.Decide.{dec_le}
use Rattle.std.proofs.lemmas.Bool.{false≢true}
use Rattle.std.proofs.Math.Seq.{take-length}
use Rattle.meaning.proofs.Laws.Rows.{and_l, and_r, and_both, false_by}
use Rattle.meaning.specs.Tables.{most_timers}
use Rattle.meaning.specs.Programs.{Program, instructions, all, timer_rung_fits, program_fits}
use Rattle.meaning.specs.declared.Operator.{Operator}
use Rattle.format.specs.declared.Reading.{Reading}
use Rattle.format.specs.Words.{word, words, AcceptedWords}
use Rattle.format.specs.Places.{Continues, Place, WordPlace}
use Rattle.format.specs.Decode.{operator_fits, decoded}
use Rattle.format.proofs.Laws.Decode.{decode_word, word_decode, word_same}
use Rattle.format.specs.Automata.Phases.{begin_words, phase_step, phase_after_all, alive, may_end, step_word, after_words}
use Rattle.format.proofs.Laws.Phases.{step_moves}
use Rattle.format.proofs.Laws.Passing.{AcceptsFrom, program_accepted, program_instructions}
use Rattle.format.proofs.Laws.Continuing.{moves_from, begin_sound, after_sound, can_end}
use Rattle.format.proofs.Laws.Parsing.{end_alive, accepted_program}
use Rattle.format.proofs.Laws.Unique.{head_same, tail_same, program_same}

-- ---- words and instructions

pub words_after : (is : List Operator) (s : Reading) → all operator_fits is ≡ true → after_words s (map word is) ≡ phase_after_all s is
unfolding all phase_after_all after_words step_word
words_after [] s f = refl
words_after (i ∷ is) s f = ap (λ x. after_words (step_word s x) (map word is)) (decode_word i (and_l (operator_fits i) _ f)) ∙ words_after is (phase_step s i) (and_r (operator_fits i) _ f)

pub after_words_append : (l m : List ℕ) (s : Reading) → after_words s (l ++ m) ≡ after_words (after_words s l) m
unfolding after_words
after_words_append [] m s = refl
after_words_append (n ∷ l) m s = after_words_append l m (step_word s (decoded n))

step_alive : (s : Reading) (n : ℕ) (x : Decoded) → decoded n ≡ x → alive (step_word s x) ≡ true → alive s ≡ true
unfolding step_word alive
step_alive s n (Some i) e a = moves_from (step_moves s i (word_decode n i e).0 a)
step_alive s n None e a = absurd (false≢true a)

pub alive_words : (l : List ℕ) (s : Reading) → alive (after_words s l) ≡ true → alive s ≡ true
unfolding after_words
alive_words [] s a = a
alive_words (n ∷ l) s a = step_alive s n (decoded n) refl (alive_words l (step_word s (decoded n)) a)

-- the instructions of words that are not refused
pub read_words : (l : List ℕ) (s : Reading) → alive (after_words s l) ≡ true → (is : List Operator) × (all operator_fits is ≡ true) × (map word is ≡ l)
unfolding after_words all step_word alive
read_words [] s a = ([], refl, refl)
read_words (n ∷ l) s a = go (decoded n) refl (alive_words l (step_word s (decoded n)) a) (read_words l (step_word s (decoded n)) a)
  where
    go : (x : Decoded) → decoded n ≡ x → alive (step_word s x) ≡ true → (is : List Operator) × (all operator_fits is ≡ true) × (map word is ≡ l) → (is : List Operator) × (all operator_fits is ≡ true) × (map word is ≡ n ∷ l)
    go (Some i) e b r = (i ∷ r.0, and_both _ _ (word_decode n i e).0 r.1, ap₂ ◌∷◌ (word_decode n i e).1 r.2)
    go None e b r = absurd (false≢true b)

pub fits_small : (p : Program) → program_fits p ≡ true → length p.timers ≤ most_timers
unfolding program_fits
fits_small p f = let d = length p.timers in leb-true _ _ (and_l (leb d most_timers) _ (and_l (leb d most_timers && all (timer_rung_fits d) p.timers) _ f))

-- ---- the laws

pub accepted_words : (l : List ℕ) → AcceptedWords l ↔ (may_end (after_words begin_words l) ≡ true)
unfolding words
accepted_words l = (there, back)
  where
    there : AcceptedWords l → may_end (after_words begin_words l) ≡ true
    there a =
        let r = program_accepted a.0 0 most_timers a.1 (omega arith) (fits_small a.0 a.1) in
        rw (← a.2, words_after (instructions a.0) begin_words r.known) r.ends

    back : may_end (after_words begin_words l) ≡ true → AcceptedWords l
    back e =
        let r = read_words l begin_words (end_alive _ e) in
        let p = accepted_program 0 most_timers r.0 (omega arith) (omega arith) (record { known = r.1; ends = rw (← words_after r.0 begin_words r.1, r.2) e }) in
        (p.program, p.fitting, ap (map word) p.listing ∙ r.2)

alive_front : (l m : List ℕ) (s : Reading) → alive (after_words s (l ++ m)) ≡ true → alive (after_words s l) ≡ true
alive_front l m s a = alive_words m (after_words s l) (rw after_words_append at a)

-- the first k words go on to an accepted list exactly where the reader has not refused them
pub continues_words : (l : List ℕ) (k : ℕ) → Continues AcceptedWords l k ↔ (alive (after_words begin_words (take k l)) ≡ true)
continues_words l k = (λ c. alive_front (take k l) c.0 begin_words (end_alive _ ((accepted_words _).0 c.1)), back)
  where
    back : alive (after_words begin_words (take k l)) ≡ true → Continues AcceptedWords l k
    back a =
        let r = read_words (take k l) begin_words a in
        let e : after_words begin_words (take k l) ≡ phase_after_all begin_words r.0 = ap (after_words begin_words) (sym r.2) ∙ words_after r.0 begin_words r.1 in
        let b : alive (phase_after_all begin_words r.0) ≡ true = rw e at a in
        let m = can_end (phase_after_all begin_words r.0) (after_sound r.0 begin_words r.1 b (begin_sound 0 most_timers (omega arith) (omega arith))) b in
        let f = after_words_append (take k l) (map word m.0) begin_words ∙ ap (λ s. after_words s (map word m.0)) e ∙ words_after m.0 _ m.1.known in
        (map word m.0, (accepted_words _).1 (ap may_end f ∙ m.1.ends))

-- from s the reader survives exactly k words
pub record Survives (s : Reading) (l : List ℕ) (k : ℕ) : Type 0 where
  pub within : k ≤ length l
  pub before : alive (after_words s (take k l)) ≡ true
  pub after : k < length l → alive (after_words s (take (suc k) l)) ≡ false

-- and it may not end with the whole
pub record Stops (l : List ℕ) (k : ℕ) : Type 0 where
  pub unended : may_end (after_words begin_words l) ≡ false
  pub survives : Survives begin_words l k

-- longer fronts are refused too
take_front : {A : Type 0} (k j : ℕ) (l : List A) → k ≤ j → take k l ++ drop k (take j l) ≡ take j l
take_front k j l h = rw (← take-take k j l h) (take-append-drop k (take j l))

pub word_place : (l : List ℕ) (k : ℕ) → WordPlace l k ↔ Stops l k
word_place l k = (
  λ p. record {
    unended = false_by _ (λ e. p.refused ((accepted_words l).1 e));
    survives = record {
      within = p.within;
      before = (continues_words l k).0 p.before;
      after = λ h. false_by _ (λ e. p.after (suc k) (omega arith) h tt ((continues_words l (suc k)).1 e));
    };
  },
  λ s. record {
    refused = λ a. true≢false (sym ((accepted_words l).0 a) ∙ s.unended);
    within = s.survives.within;
    whole = tt;
    before = (continues_words l k).1 s.survives.before;
    after = λ j h g _ c. (let a = (continues_words l j).0 c in
        let b = alive_front (take (suc k) l) (drop (suc k) (take j l)) begin_words (rw (take_front (suc k) j l h) a) in
        true≢false (sym b ∙ s.survives.after (omega arith)));
  },
)

-- ---- word by word

-- one word more
pub words_step : (l : List ℕ) (i : ℕ) (s : Reading) → i < length l → after_words s (take (suc i) l) ≡ step_word (after_words s (take i l)) (decoded (get_or l i 0))
unfolding after_words
words_step l i s h = ap (after_words s) (take-suc l i 0 h) ∙ after_words_append (take i l) (get_or l i 0 ∷ []) s

-- a word that the reader refuses
pub refused_word : (l : List ℕ) (i : ℕ) → i < length l → alive (after_words begin_words (take i l)) ≡ true → alive (step_word (after_words begin_words (take i l)) (decoded (get_or l i 0))) ≡ false → WordPlace l i
refused_word l i h a b =
    let d = ap alive (words_step l i begin_words h) ∙ b in
    let never = false_by (may_end (after_words begin_words l)) (λ e. true≢false (sym (alive_front (take (suc i) l) (drop (suc i) l) begin_words (rw take-append-drop (end_alive _ e))) ∙ d)) in
    (word_place l i).1 (record { unended = never; survives = record { within = omega arith; before = a; after = λ _. d } })

-- only words are missing
pub unfinished_words : (l : List ℕ) → alive (after_words begin_words l) ≡ true → may_end (after_words begin_words l) ≡ false → WordPlace l (length l)
unfinished_words l a b = (word_place l (length l)).1 (record { unended = b; survives = record { within = omega arith; before = rw take-length a; after = λ h. absurd (omega arith) } })

-- ---- one program only

words_back : (is js : List Operator) → all operator_fits is ≡ true → all operator_fits js ≡ true → map word is ≡ map word js → is ≡ js
unfolding all
words_back [] [] f g e = refl
words_back [] (j ∷ js) f g e = absurd (omega (arith, ap length e))
words_back (i ∷ is) [] f g e = absurd (omega (arith, ap length e))
words_back (i ∷ is) (j ∷ js) f g e =
    ap₂ ◌∷◌ (word_same i j (and_l (operator_fits i) _ f) (and_l (operator_fits j) _ g) (head_same e)) (words_back is js (and_r (operator_fits i) _ f) (and_r (operator_fits j) _ g) (tail_same e))

-- the program of a list of words is unique
pub words_same : (p q : Program) → program_fits p ≡ true → program_fits q ≡ true → words p ≡ words q → p ≡ q
unfolding words
words_same p q f g e = program_same p q f g (words_back (instructions p) (instructions q) (program_instructions p f) (program_instructions q g) e)

-- the reader has counted the program's timer rungs
pub program_timers : (p : Program) → program_fits p ≡ true → (after_words begin_words (words p)).timers ≡ length p.timers
unfolding words
program_timers p f =
    let r = program_accepted p 0 most_timers f (omega arith) (fits_small p f) in
    let q = accepted_program 0 most_timers (instructions p) (omega arith) (omega arith) r in
    ap (λ s. s.timers) (words_after (instructions p) begin_words r.known) ∙ sym q.counts ∙ ap (λ x. length x.timers) (program_same q.program p q.fitting f q.listing)

-- there is one place only
pub place_same : (AcceptsFrom : List ℕ → Type 0) (Whole : ℕ → Type 0) (l : List ℕ) (k j : ℕ) → Place AcceptsFrom Whole l k → Place AcceptsFrom Whole l j → k ≡ j
place_same AcceptsFrom Whole l k j p q = elim (dec_le (suc k) j) [
  | yes h ↦ absurd (p.after j h q.within q.whole q.before)
  | no h ↦ elim (dec_le (suc j) k) [
    | yes g ↦ absurd (q.after k g p.within p.whole p.before)
    | no g ↦ omega arith
  ]
]
