-- The lines of a text, and reading them one by one.
use Rattle.std.specs.Prelude.{ℕ, zero, suc, ◌+◌, ◌*◌, ◌-◌, Bool, true, false, ◌&&◌, ◌||◌, not, cond, List, [], ◌∷◌, ◌++◌, map, length, get_or, drop, leb, eqb}
use Rattle.meaning.specs.Rows.{table}
use Rattle.meaning.specs.Tables.{most_timers}
use Rattle.meaning.specs.Literals.{between}
use Rattle.meaning.specs.Programs.{Program, instructions}
use Rattle.meaning.specs.declared.Operand.{Operand}
use Rattle.meaning.specs.declared.Operand.TheVariants.{Mx, Ix, Qx, TimerQ, TimerIn, TimerPt, Timer, False, True}
use Rattle.meaning.specs.declared.Operator.{Operator}
use Rattle.meaning.specs.declared.Operator.TheVariants.{Ld, Ldn, And, Andn, Or, Close, St, S, R, Cal, LdTime}
use Rattle.format.specs.declared.Line.{Line}
use Rattle.format.specs.declared.Line.TheVariants.{Header, Var, Block, EndVar, Says, EndProgram, Unknown}
use Rattle.format.specs.declared.Stage.{Stage}
use Rattle.format.specs.declared.Stage.TheVariants.{Title, Headed, Declaring, Rungs, Ended, Broken}
use Rattle.format.specs.declared.Page.{Page}
use Rattle.format.specs.Text.{bytes, decimal, operator_text}
use Rattle.format.specs.Records.{same}
use Rattle.format.specs.Decode.{operator_fits}
use Rattle.format.specs.Automata.Phases.{begin, phase_step, alive, may_end}

-- ---- the text of a line, without its LF

unfoldable pub line_text : Line → List ℕ
line_text Header = bytes "PROGRAM CHART"
line_text Var = bytes "VAR"
line_text (Block n) = bytes "T" ++ (decimal n ++ bytes " : TON;")
line_text EndVar = bytes "END_VAR"
line_text (Says i) = operator_text i
line_text EndProgram = bytes "END_PROGRAM"
line_text Unknown = []

-- some accepted text has it
unfoldable pub line_fits : Line → Bool
line_fits Header = true
line_fits Var = true
line_fits (Block n) = between 1 most_timers n
line_fits EndVar = true
line_fits (Says i) = operator_fits i
line_fits EndProgram = true
line_fits Unknown = false

unfoldable pub declared : ℕ → List Line
declared zero = []
declared (suc d) = Var ∷ (map Block (table (λ n. n) 1 (suc d)) ++ (EndVar ∷ []))

-- the lines of a program's text
unfoldable pub program_lines : Program → List Line
program_lines p = Header ∷ (declared (length p.timers) ++ (map Says (instructions p) ++ (EndProgram ∷ [])))

-- ---- from the bytes of a line

-- the number that leading digits spell, behind a, and what follows them
pub record Spelt : Type 0 where
  pub number : ℕ
  pub rest : List ℕ

unfoldable pub leading : ℕ → List ℕ → Spelt
leading a [] = record { number = a; rest = [] }
leading a (b ∷ bs) = cond (between 48 57 b) (leading (10 * a + (b - 48)) bs) (record { number = a; rest = b ∷ bs })

-- Tn, Tn.Q, Tn.IN or Tn.PT, by the second byte after the number
unfoldable pub timer_operand : Spelt → Operand
timer_operand s = let b = get_or s.rest 1 0 in
    cond (eqb b 81) (TimerQ s.number)
    (cond (eqb b 73) (TimerIn s.number) (cond (eqb b 80) (TimerPt s.number) (Timer s.number)))

-- the operand that l is, if it is one: by its second byte, M, I, Q, A, R or a digit
unfoldable pub operand_in : List ℕ → Operand
operand_in l = let b = get_or l 1 0 in
    cond (eqb b 77) (Mx (leading 0 (drop 3 l)).number)
    (cond (eqb b 73) (Ix (leading 0 (drop 3 l)).number)
    (cond (eqb b 81) (Qx (leading 0 (drop 3 l)).number)
    (cond (eqb b 65) False
    (cond (eqb b 82) True (timer_operand (leading 0 (drop 1 l)))))))

-- LD of an operand or of a time
unfoldable pub load_in : List ℕ → Operator
load_in l = cond (eqb (get_or l 1 0) 35) (LdTime (leading 0 (drop 2 l)).number) (Ld (operand_in l))

-- the instruction that l is, if it is one: by its first byte, L, A, O, ), S, R or C, and where it ends
unfoldable pub operator_in : List ℕ → Operator
operator_in l = let a = get_or l 0 0 in
    cond (eqb a 76) (cond (eqb (get_or l 2 0) 32) (load_in (drop 3 l)) (Ldn (operand_in (drop 4 l))))
    (cond (eqb a 65) (cond (eqb (get_or l 3 0) 32) (And (operand_in (drop 4 l))) (Andn (operand_in (drop 5 l))))
    (cond (eqb a 79) Or
    (cond (eqb a 41) Close
    (cond (eqb a 83) (cond (eqb (get_or l 1 0) 84) (St (operand_in (drop 3 l))) (S (operand_in (drop 2 l))))
    (cond (eqb a 82) (R (operand_in (drop 2 l)))
    (Cal (operand_in (drop 4 l))))))))

-- the line that l is, if it is one: by its first byte, P, V, T or E, or an instruction's
unfoldable pub line_in : List ℕ → Line
line_in l = let a = get_or l 0 0 in
    cond (eqb a 80) Header
    (cond (eqb a 86) Var
    (cond (eqb a 84) (Block (leading 0 (drop 1 l)).number)
    (cond (eqb a 69) (cond (eqb (get_or l 4 0) 86) EndVar EndProgram)
    (Says (operator_in l)))))

-- the line that l is
unfoldable pub said : List ℕ → Line
said l = cond (line_fits (line_in l) && same (line_text (line_in l)) l) (line_in l) Unknown

-- ---- line by line

abbrev pub stage_number : Stage → ℕ
stage_number Title = 0
stage_number Headed = 1
stage_number Declaring = 2
stage_number Rungs = 3
stage_number Ended = 4
stage_number Broken = 5

abbrev pub at_stage : Stage → Page → Bool
at_stage w s = eqb (stage_number s.stage) (stage_number w)

unfoldable pub first_page : Page
first_page = record { stage = Title; blocks = 0; reading = begin 0 0 }

abbrev pub turned : Stage → Page → Page
turned w s = record { stage = w; blocks = s.blocks; reading = s.reading }

-- one block more
abbrev pub declared_one : Page → Page
declared_one s = record { stage = Declaring; blocks = suc s.blocks; reading = s.reading }

-- the rungs, for exactly the declared blocks
abbrev pub declared_all : Page → Page
declared_all s = record { stage = Rungs; blocks = s.blocks; reading = begin s.blocks s.blocks }

abbrev pub read_on : Operator → Page → Page
read_on i s = record { stage = Rungs; blocks = s.blocks; reading = phase_step s.reading i }

abbrev pub gone_on : Bool → Page → Page → Page
gone_on ok t s = cond ok t (turned Broken s)

unfoldable pub turn : Page → Line → Page
turn s Header = gone_on (at_stage Title s) (turned Headed s) s
turn s Var = gone_on (at_stage Headed s) (turned Declaring s) s
turn s (Block n) = gone_on (at_stage Declaring s && (eqb n (suc s.blocks) && leb n most_timers)) (declared_one s) s
turn s EndVar = gone_on (at_stage Declaring s && leb 1 s.blocks) (declared_all s) s
turn s (Says i) = gone_on ((at_stage Headed s || at_stage Rungs s) && alive (phase_step s.reading i)) (read_on i s) s
turn s EndProgram = gone_on ((at_stage Headed s || at_stage Rungs s) && may_end s.reading) (turned Ended s) s
turn s Unknown = turned Broken s

unfoldable pub turn_all : Page → List Line → Page
turn_all s [] = s
turn_all s (t ∷ ts) = turn_all (turn s t) ts

-- no line has come that no text has, and the last line of a text has come
unfoldable pub page_stands : Page → Bool
page_stands s = not (at_stage Broken s)

unfoldable pub over : Page → Bool
over s = at_stage Ended s

-- ---- by bytes: the lines of a text, each without its LF

unfoldable pub after_lines : Page → List (List ℕ) → Page
after_lines s [] = s
after_lines s (l ∷ ls) = after_lines (turn s (said l)) ls
