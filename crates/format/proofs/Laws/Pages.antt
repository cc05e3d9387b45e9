-- The reader of lines ends with exactly the lines of the programs that the grammar makes.
use Rattle.std.specs.Prelude.{◌≡◌, refl, ℕ, zero, suc, ◌+◌, ◌≤◌, true, List, [], ◌∷◌, ◌++◌, map, length}
use Rattle.std.proofs.Common.{sym, ap, ◌∙◌, subst, inl, inr, arith, append_assoc, le-leb}
use Rattle.std.proofs.Math.Decide.{dec_le}
use Rattle.std.proofs.lemmas.Bool.{false≢true}
use Rattle.meaning.specs.Rows.{table}
use Rattle.meaning.proofs.Laws.Rows.{and_l, and_r, and_both}
use Rattle.meaning.specs.Tables.{most_timers}
use Rattle.meaning.specs.Literals.{between}
use Rattle.meaning.specs.Programs.{Program, instructions, all, program_fits}
use Rattle.meaning.specs.declared.Operator.{Operator}
use Rattle.format.specs.declared.Line.{Line}
use Rattle.format.specs.declared.Line.TheVariants.{Header, Var, Block, EndVar, Says, EndProgram}
use Rattle.format.specs.declared.Stage.{Stage}
use Rattle.format.specs.declared.Stage.TheVariants.{Title, Headed, Declaring, Rungs, Ended, Broken}
use Rattle.format.specs.declared.Page.{Page}
use Rattle.format.specs.declared.Reading.{Reading}
use Rattle.format.specs.Decode.{operator_fits}
use Rattle.format.specs.Automata.Phases.{begin, phase_step, phase_after_all, alive, may_end}
use Rattle.format.specs.Automata.Lines.{line_fits, declared, program_lines, first_page, turned, declared_one, declared_all, read_on, turn, turn_all}
use Rattle.format.proofs.Laws.Phases.{step_moves}
use Rattle.format.proofs.Laws.Passing.{AcceptsFrom, program_accepted}
use Rattle.format.proofs.Laws.Continuing.{SoundReading, begin_sound, moves_sound, can_end}
use Rattle.format.proofs.Laws.Parsing.{fronts_alive, accepted_program}
use Rattle.format.proofs.Laws.Words.{fits_small}
use Rattle.format.proofs.Laws.Turns.{InRungs, TurnsTo, heads, vars, declares, ends_var, says, ends, on_yes, turn_goes, goes_turn, standing_before, over_standing}
use Rattle.format.specs.Automata.Lines.{page_stands, over}

-- ---- from the lines to the program

-- the lines from the first instruction on
abbrev rung_lines : List Operator → List Line
rung_lines is = map Says is ++ (EndProgram ∷ [])

-- with n blocks declared, k are still to be
record Declares (n : ℕ) (ts : List Line) : Type 0 where
  program : Program
  fitting : program_fits program ≡ true
  count : ℕ
  total : n + count ≡ length program.timers
  some : 1 ≤ length program.timers
  lists : map Block (table (λ m. m) (suc n) count) ++ (EndVar ∷ rung_lines (instructions program)) ≡ ts

-- what is still to be read, by stage
abbrev RestOf : Stage → ℕ → Reading → List Line → Type 0
RestOf Title n r ts = (p : Program) × (program_fits p ≡ true) × (program_lines p ≡ ts)
RestOf Headed n r ts = (p : Program) × (program_fits p ≡ true) × (program_lines p ≡ Header ∷ ts)
RestOf Declaring n r ts = Declares n ts
RestOf Rungs n r ts = (is : List Operator) × AcceptsFrom r is × (rung_lines is ≡ ts)
RestOf Ended n r ts = ts ≡ []
RestOf Broken n r ts = ts ≡ []

-- what is so on every page
abbrev pub SoundAt : Stage → ℕ → Reading → Type 0
SoundAt Title n r = (n ≡ 0) × (r ≡ begin 0 0)
SoundAt Headed n r = (n ≡ 0) × (r ≡ begin 0 0)
SoundAt Declaring n r = n ≤ most_timers
SoundAt Rungs n r = SoundReading r × (alive r ≡ true)
SoundAt Ended n r = n ≤ n
SoundAt Broken n r = n ≤ n

abbrev pub SoundPage : Page → Type 0
SoundPage s = SoundAt s.stage s.blocks s.reading

pub first_sound : SoundPage first_page
unfolding first_page
first_sound = (refl, refl)

headed : (s : Page) → s.stage ≡ Headed → SoundPage s → (s.blocks ≡ 0) × (s.reading ≡ begin 0 0)
headed s e k = rw e at k

running_sound : (s : Page) → InRungs s → SoundPage s → SoundReading s.reading
running_sound s (inl e) k = rw (headed s e k).1 (begin_sound 0 0 (omega arith) (omega arith))
running_sound s (inr e) k = let h : SoundReading s.reading × (alive s.reading ≡ true) = rw e at k in h.0

pub goes_sound : {s r : Page} {t : Line} → TurnsTo s t r → line_fits t ≡ true → SoundPage s → SoundPage r
unfolding line_fits begin alive
goes_sound (heads e) f k = rw e at k
goes_sound {s} (vars e) f k = omega (arith, (headed s e k).0)
goes_sound (declares e h) f k = h
goes_sound {s} (ends_var e h) f k = (begin_sound s.blocks s.blocks (omega arith) (rw e at k), refl)
goes_sound {s} (says i e a) f k = (moves_sound (step_moves s.reading i f a) (running_sound s e k), a)
goes_sound (ends e a) f k = omega arith

-- ---- a line more, in front

declared_list : (d : ℕ) (l : List Line) → 1 ≤ d → declared d ++ l ≡ Var ∷ (map Block (table (λ m. m) 1 d) ++ (EndVar ∷ l))
unfolding declared
declared_list zero l h = absurd (omega arith)
declared_list (suc d) l h = ap (λ x. Var ∷ x) (append_assoc (map Block (table (λ m. m) 1 (suc d))) (EndVar ∷ []) l)

-- where nothing is declared
headed_rest : {r : Reading} {ts : List Line} → r ≡ begin 0 0 → RestOf Rungs 0 r ts → RestOf Headed 0 r ts
unfolding program_lines declared
headed_rest {r} {ts} e (is, a, l) =
    let q = accepted_program 0 0 is (omega arith) (omega arith) (rw e at a) in
    let z : length q.program.timers ≡ 0 = omega (arith, q.most) in
    (q.program, q.fitting, rw z (ap (λ x. Header ∷ rung_lines x) q.listing ∙ ap (λ x. Header ∷ x) l))

rest_says : {r : Reading} {ts : List Line} (i : Operator) → operator_fits i ≡ true → RestOf Rungs 0 (phase_step r i) ts → RestOf Rungs 0 r (Says i ∷ ts)
unfolding all phase_after_all
rest_says i f (is, a, l) = (i ∷ is, record { known = and_both _ _ f a.known; ends = a.ends }, ap (λ x. Says i ∷ x) l)

rest_ends : {r : Reading} {ts : List Line} → may_end r ≡ true → ts ≡ [] → RestOf Rungs 0 r (EndProgram ∷ ts)
unfolding all phase_after_all
rest_ends a e = ([], record { known = refl; ends = a }, ap (λ x. EndProgram ∷ x) (sym e))

rest_by : {s r : Page} {t : Line} (ts : List Line) → TurnsTo s t r → line_fits t ≡ true → SoundPage s → RestOf r.stage r.blocks r.reading ts → RestOf s.stage s.blocks s.reading (t ∷ ts)
unfolding line_fits program_lines table
rest_by ts (heads e) f k q = rw e q
rest_by {s} ts (vars e) f k q = rw e (
  q.program,
  q.fitting,
  ap (λ x. Header ∷ x) (declared_list (length q.program.timers) _ q.some ∙ ap (λ x. Var ∷ x) (from_first s.blocks q.count (length q.program.timers) (headed s e k).0 q.total ∙ q.lists)),
)
  where
    from_first : (n c d : ℕ) → n ≡ 0 → n + c ≡ d → map Block (table (λ m. m) 1 d) ++ (EndVar ∷ rung_lines (instructions q.program)) ≡ map Block (table (λ m. m) (suc n) c) ++ (EndVar ∷ rung_lines (instructions q.program))
    from_first n c d z h = let g : d ≡ c = omega arith in rw (z, g)
rest_by {s} ts (declares e h) f k q = rw e (
    record {
      program = q.program;
      fitting = q.fitting;
      count = suc q.count;
      total = omega (arith, q.total);
      some = q.some;
      lists = ap (λ x. Block (suc s.blocks) ∷ x) q.lists;
    }
    )
rest_by {s} ts (ends_var e h) f k q =
    let r = accepted_program s.blocks s.blocks q.0 (omega arith) (rw e at k) q.1 in
    rw e (
    record {
      program = r.program;
      fitting = r.fitting;
      count = 0;
      total = omega (arith, r.least, r.most);
      some = omega (arith, r.least);
      lists = ap (λ x. EndVar ∷ rung_lines x) r.listing ∙ ap (λ x. EndVar ∷ x) q.2;
    }
    )
rest_by {s} ts (says i (inl e) a) f k q = rw e (headed_rest (headed s e k).1 (rest_says i f q))
rest_by ts (says i (inr e) a) f k q = rw e (rest_says i f q)
rest_by {s} ts (ends (inl e) a) f k q = rw e (headed_rest (headed s e k).1 (rest_ends a q))
rest_by ts (ends (inr e) a) f k q = rw e (rest_ends a q)

-- ---- all the lines

-- from s the reader takes all the lines, and the text ends with them
pub record ReadsPage (s : Page) (ts : List Line) : Type 0 where
  pub known : all line_fits ts ≡ true
  pub ends : over (turn_all s ts) ≡ true

rest_of : (ts : List Line) (s : Page) → SoundPage s → ReadsPage s ts → RestOf s.stage s.blocks s.reading ts
unfolding all turn_all over
rest_of [] s k a = rw (on_yes Ended s a.ends)
rest_of (t ∷ ts) s k a =
    let f = and_l (line_fits t) _ a.known in
    let g = turn_goes s t (standing_before ts (turn s t) (over_standing _ a.ends)) in
    rest_by ts g f k (rest_of ts (turn s t) (goes_sound g f k) (record { known = and_r (line_fits t) _ a.known; ends = a.ends }))

-- what is read to the end is what the grammar makes
pub lines_program : (ts : List Line) → ReadsPage first_page ts → (p : Program) × (program_fits p ≡ true) × (program_lines p ≡ ts)
unfolding first_page
lines_program ts a = rest_of ts first_page first_sound a

-- ---- from the program to the lines

pub reads_by : {s r : Page} {t : Line} {ts : List Line} → TurnsTo s t r → line_fits t ≡ true → ReadsPage r ts → ReadsPage s (t ∷ ts)
unfolding all turn_all
reads_by g f a = record { known = and_both _ _ f a.known; ends = rw (goes_turn g) a.ends }

pub rungs_read : (is : List Operator) (s : Page) → InRungs s → AcceptsFrom s.reading is → ReadsPage s (rung_lines is)
unfolding phase_after_all all line_fits over turn_all
rungs_read [] s e a = reads_by (ends e a.ends) refl (record { known = refl; ends = refl })
rungs_read (i ∷ is) s e a = reads_by (says i e (fronts_alive (i ∷ is) s.reading 1 a)) (and_l (operator_fits i) _ a.known) (rungs_read is (read_on i s) (inr refl) (record { known = and_r (operator_fits i) _ a.known; ends = a.ends }))

blocks_read : (k n : ℕ) (ts : List Line) → n + k ≤ most_timers → ((s : Page) → s.stage ≡ Declaring → s.blocks ≡ n + k → ReadsPage s ts)
    → (s : Page) → s.stage ≡ Declaring → s.blocks ≡ n → ReadsPage s (map Block (table (λ m. m) (suc n) k) ++ ts)
unfolding table line_fits
blocks_read zero n ts h f s e b = f s e (omega arith)
blocks_read (suc k) n ts h f s e b =
    let g = reads_by (declares e (omega arith)) (and_both _ _ (le-leb 1 (suc s.blocks) (omega arith)) (le-leb (suc s.blocks) most_timers (omega arith)))
    (blocks_read k (suc n) ts (omega arith) (λ r u v. f r u (omega arith)) (declared_one s) refl (ap suc b)) in
    subst (λ x. ReadsPage s (Block (suc x) ∷ (map Block (table (λ m. m) (suc (suc n)) k) ++ ts))) b g

-- what the grammar makes is read to the end
pub program_lines_lem : (p : Program) → program_fits p ≡ true → ReadsPage first_page (program_lines p)
unfolding program_lines first_page line_fits declared
program_lines_lem p f = go (length p.timers) refl
  where
    d : ℕ
    d = length p.timers

    go : (n : ℕ) → d ≡ n → ReadsPage first_page (program_lines p)
    go zero e = reads_by (heads refl) refl (rw e (rungs_read (instructions p) _ (inl refl) (program_accepted p 0 0 f (omega arith) (omega arith))))
    go (suc n) e = reads_by (heads refl) refl (rw (declared_list d (rung_lines (instructions p)) (omega arith))
        (reads_by (vars refl) refl (blocks_read d 0 _ (omega (arith, fits_small p f))
        (λ s u v. reads_by (ends_var u (omega arith)) refl (rungs_read (instructions p) (declared_all s) (inr refl) (program_accepted p s.blocks s.blocks f (omega arith) (omega arith)))) _ refl refl)))

-- ---- what is missing

Closing : Page → Type 0
Closing s = (ts : List Line) × ReadsPage s ts

closing_by : {s r : Page} {t : Line} → TurnsTo s t r → line_fits t ≡ true → Closing r → Closing s
unfolding Closing
closing_by {t = t} g f c = (t ∷ c.0, reads_by g f c.1)

close_rungs : (s : Page) → s.stage ≡ Rungs → SoundPage s → Closing s
unfolding Closing
close_rungs s e k =
    let h : SoundReading s.reading × (alive s.reading ≡ true) = rw e at k in
    let m = can_end s.reading h.0 h.1 in
    (rung_lines m.0, rungs_read m.0 s (inr e) m.1)

close_some : (s : Page) → s.stage ≡ Declaring → 1 ≤ s.blocks → SoundPage s → Closing s
unfolding line_fits
close_some s e h k = let g : TurnsTo s EndVar (declared_all s) = ends_var e h in closing_by g refl (close_rungs _ refl (goes_sound g refl k))

close_declaring : (s : Page) → s.stage ≡ Declaring → SoundPage s → Closing s
unfolding line_fits
close_declaring s e k = elim (dec_le 1 s.blocks) [
  | yes h ↦ close_some s e h k
  | no h ↦ (let g : TurnsTo s (Block (suc s.blocks)) (declared_one s) = declares e (omega arith) in
      let f : between 1 most_timers (suc s.blocks) ≡ true = (let z : s.blocks ≡ 0 = omega arith in rw z) in
      closing_by g f (close_some _ refl (omega arith) (goes_sound g f k)))
]

close_headed : (s : Page) → s.stage ≡ Headed → SoundPage s → Closing s
unfolding line_fits may_end begin Closing all turn_all over
close_headed s e k = let g : TurnsTo s EndProgram (turned Ended s) = ends (inl e) (rw (headed s e k).1) in closing_by g refl ([], record { known = refl; ends = refl })

-- a page that is not broken can be ended
pub can_close : (s : Page) → SoundPage s → page_stands s ≡ true → (ts : List Line) × ReadsPage s ts
unfolding Closing page_stands line_fits all turn_all over
can_close s k a = go s.stage refl
  where
    go : (w : Stage) → s.stage ≡ w → Closing s
    go Title e = (let g : TurnsTo s Header (turned Headed s) = heads e in closing_by g refl (close_headed _ refl (goes_sound g refl k)))
    go Headed e = close_headed s e k
    go Declaring e = close_declaring s e k
    go Rungs e = close_rungs s e k
    go Ended e = ([], record { known = refl; ends = rw e })
    go Broken e = absurd (false≢true (rw e at a))

-- every page that lines lead to is sound
pub all_sound : (ts : List Line) (s : Page) → all line_fits ts ≡ true → page_stands (turn_all s ts) ≡ true → SoundPage s → SoundPage (turn_all s ts)
unfolding all turn_all
all_sound [] s f e k = k
all_sound (t ∷ ts) s f e k = all_sound ts (turn s t) (and_r (line_fits t) _ f) e (goes_sound (turn_goes s t (standing_before ts (turn s t) e)) (and_l (line_fits t) _ f) k)
