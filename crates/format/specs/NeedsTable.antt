-- What the program prints with --needs: a table of the moves with what each needs on and off; for an OVERLAP the pair
-- and a setting that enables both; and the verdict. Where LITERAL or a check before it refuses, the refusal alone.
use Rattle.meaning.specs.Refusals.{Verdict}
use Rattle.std.specs.Prelude.{ℕ, suc, Bool, cond, eqb, Ok, Err}
use mathlib.Core.List.{List, [], ◌∷◌, ◌++◌, flat_map}
use Rattle.meaning.specs.Rows.{table}
use Rattle.meaning.specs.Tables.{Tables, most_inputs, most_timers, move_count, source, target}
use Rattle.meaning.specs.Hierarchy.{up, depth}
use Rattle.meaning.specs.Literals.{between}
use Rattle.meaning.specs.Needs.{Things, needs_on, needs_off, both_on, both_off, lower}
use Rattle.meaning.specs.Check.{checks, verdict_of, earlier}
use Rattle.meaning.specs.Refusals.{number_of, place_of}
use Rattle.meaning.specs.declared.Refusal.{Refusal}
use Rattle.meaning.specs.declared.Operand.TheVariants.{Ix, TimerQ}
use Rattle.format.specs.Text.{bytes, decimal, operand_text, line}
use Rattle.format.specs.Printed.{Files, field_checks, tables, comma, refusal_line}

-- the names of those of the numbers 1 to n that pass, rising
unfoldable pub names_of : (ℕ → List ℕ) → (ℕ → Bool) → ℕ → List (List ℕ)
names_of name p n = flat_map (λ k. cond (p k) (name k ∷ []) []) (table (λ k. k) 1 n)

-- a set by the names that things have in the written text: inputs, then timers
unfoldable pub thing_names : Things → List (List ℕ)
thing_names s = names_of (λ n. operand_text (Ix n)) s.inputs most_inputs
    ++ names_of (λ t. operand_text (TimerQ t)) s.timers most_timers

-- one space between two; "-" where there is none
unfoldable pub spaced : List (List ℕ) → List ℕ
spaced [] = bytes "-"
spaced (w ∷ ws) = w ++ flat_map (λ v. 32 ∷ v) ws

unfoldable pub things_text : Things → List ℕ
things_text s = spaced (thing_names s)

-- a state and those above it, up to the root
unfoldable pub upward : Tables → ℕ → List ℕ
upward c s = spaced (table (λ k. decimal (up c k s)) 0 (suc (depth c s)))

-- a line a move: its number from 0, its source and those above it, its target, what it needs on, what it needs off
unfoldable pub needs_line : Tables → ℕ → List ℕ
needs_line c i = line (comma (decimal i) (comma (upward c (source c i)) (comma (decimal (target c i))
    (comma (things_text (needs_on c i)) (things_text (needs_off c i))))))

unfoldable pub needs_table : Tables → List ℕ
needs_table c = line (bytes "move,source and above,target,needs on,needs off")
    ++ flat_map (needs_line c) (table (λ i. i) 0 (move_count c))

-- two moves that overlap, the earlier first, in the fields of the table: the lower source, in which and in every leaf
-- below it both are enabled; no target; what must be on for that, and what must be off
unfoldable pub overlap_line : Tables → ℕ → List ℕ
overlap_line c i = line (comma (bytes "OVERLAP " ++ (decimal (earlier c i) ++ (32 ∷ decimal i)))
    (comma (decimal (lower c (earlier c i) i)) (comma (bytes "-")
    (comma (things_text (both_on c (earlier c i) i)) (things_text (both_off c (earlier c i) i))))))

-- 9 IDLE TIMER, 10 OVERLAP and 11 FLIP-FLOPS are looked for after LITERAL: what the moves need is known then
unfoldable pub needs_known : Refusal → Bool
needs_known r = between 9 11 (number_of r)

-- the last line is the verdict: REFUSED,number,place as without --needs, or ACCEPTED
unfoldable pub needs_page : Tables → Verdict → List ℕ
needs_page c (Ok tt) = needs_table c ++ line (bytes "ACCEPTED")
needs_page c (Err r) = cond (needs_known r) (needs_table c) []
    ++ (cond (eqb (number_of r) 10) (overlap_line c (place_of r)) [] ++ refusal_line r)

-- FIELD, then the tables' refusals, as without --needs; no text is written, so ROOM is not looked for
unfoldable pub needs_verdict : Files → Verdict
needs_verdict f = verdict_of (field_checks f ++ checks (tables f))

unfoldable pub needs_printed : Files → List ℕ
needs_printed f = needs_page (tables f) (needs_verdict f)
