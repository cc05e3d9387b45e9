-- The text of every accepted chart is a translation of it, and what follows for a run of its words.
use Rattle.std.specs.Prelude.{◌≡◌, refl, ℕ, ◌≤◌, true, length}
use Rattle.std.proofs.Common.{sym, ◌∙◌, subst, arith, length-append}
use mathlib.Core.List.{List, [], ◌∷◌, ◌++◌, map, flat_map}
use Rattle.std.proofs.lemmas.List.{length-map}
use Rattle.meaning.specs.Tables.{Tables}
use Rattle.meaning.specs.Rules.{Rules}
use Rattle.meaning.specs.Machine.{Seen}
use Rattle.meaning.specs.History.{first_leaf, history_reading}
use Rattle.meaning.specs.Programs.{Program, instructions, program_fits}
use Rattle.meaning.specs.Scan.{output_trace, scanned_all, cleared}
use Rattle.meaning.specs.Written.{program}
use Rattle.meaning.specs.Stands.{coded_leaf}
use Rattle.meaning.proofs.Laws.Programs.{program_fits_lem}
use Rattle.meaning.specs.Demands.{last_leaf, DoesTheChart, RunsAsRead}
use Rattle.meaning.proofs.Laws.Demands.{does_the_chart, runs_as_read, outputs_read, leaf_read}
use Rattle.meaning.specs.declared.Operator.{Operator}
use Rattle.format.specs.Words.{word, words}
use Rattle.format.proofs.Laws.Words.{words_same}
use Rattle.format.specs.Text.{bytes, line, operator_text, declarations, text}
use Rattle.format.proofs.Laws.Text.{text_same}
use Rattle.format.specs.Printed.{chart_text}
use Rattle.format.specs.Bytes.{Says, Translates}

-- bytes say one program only
pub says_once : (l : List ℕ) (p q : Program) → Says l p → Says l q → p ≡ q
says_once l p q s t = text_same p q s.fitting t.fitting (s.listing ∙ sym t.listing)

-- so a translation's demands hold of whatever its bytes say
pub translated : (c : Tables) (l : List ℕ) (p : Program) → Translates c l → Says l p → DoesTheChart c p × RunsAsRead c p
translated c l p t s = let e = says_once l t.program p t.says s in (subst (DoesTheChart c) e t.does, subst (RunsAsRead c) e t.runs)

-- the text of every accepted chart is a translation of it
pub chart_translated : (c : Tables) → Rules c → Translates c (chart_text c)
unfolding chart_text
chart_translated c R = record { program = program c; says = record { fitting = program_fits_lem c R; listing = refl }; does = does_the_chart c R; runs = runs_as_read c R }

-- Of any program with the words of an accepted chart's: from cleared memory the output words are those of the reading, and the leaf that the flip-flops show in the end is the reading's last.
pub words_run : (c : Tables) → Rules c → (p : Program) → program_fits p ≡ true → words p ≡ words (program c) → (xs : List ℕ)
    → (output_trace c.scan_step (instructions p) (cleared p) xs ≡ map (λ (e : Seen). e.outputs) (history_reading c xs))
    × (coded_leaf c (scanned_all c.scan_step (instructions p) (cleared p) xs).flip_flops ≡ last_leaf (first_leaf c) (history_reading c xs))
words_run c R p f e xs = rw (words_same p (program c) f (program_fits_lem c R) e) (outputs_read c R xs, leaf_read c R xs)

line_each : (is : List Operator) → length is ≤ length (flat_map (λ i. line (operator_text i)) is)
unfolding flat_map line
line_each [] = omega arith
line_each (i ∷ is) = omega (arith, line_each is, length-append (operator_text i ++ (10 ∷ [])) (flat_map (λ j. line (operator_text j)) is), length-append (operator_text i) (10 ∷ []))

-- each instruction has a line, so a text has at least as many bytes as its program has words
pub words_short : (p : Program) → length (words p) ≤ length (text p)
unfolding words text
words_short p =
    let is = instructions p in
    let body = flat_map (λ i. line (operator_text i)) is in
    let end = line (bytes "END_PROGRAM") in
    let head = line (bytes "PROGRAM CHART") in
    let vars = declarations (length p.timers) in
    omega (arith, length-map is word, line_each is, length-append head (vars ++ (body ++ end)), length-append vars (body ++ end), length-append body end)
