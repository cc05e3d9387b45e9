-- The text of a chart from its parts.
use Rattle.std.specs.Prelude.{◌≡◌, refl, ℕ, zero, suc}
use Rattle.std.proofs.Common.{sym, subst, ap, ap₂, ◌∙◌}
use mathlib.Core.List.{List, [], ◌∷◌, ◌++◌, flat_map, append_assoc}
use Rattle.meaning.specs.Rows.{table}
use Rattle.meaning.proofs.Laws.Rows.{flat_map_append}
use Rattle.meaning.specs.Tables.{Tables, move_count, timer_count}
use Rattle.meaning.specs.Layout.{flip_flop_count}
use Rattle.meaning.specs.Programs.{Rung, rung_of, timer_rung_of, timer_rungs_from, instructions}
use Rattle.meaning.proofs.Laws.Programs.{program_blocks}
use Rattle.meaning.specs.Written.{timer_rung, move_rungs, copy_rungs, output_rungs, program}
use Rattle.format.specs.Text.{bytes, line, declarations, text}
use Rattle.format.specs.Printed.{chart_text}
use Rattle.write_lines.specs.Fit.{PutIfRoom, fit_fit}
use Rattle.write_bits.specs.Sent.{lines}
use Rattle.write_bits.specs.SentLaws.{put_lines}
use Rattle.write_rungs.specs.Sections.{timers_to, moves_to, copies_to, outputs_to}

rungs_in_lem : (f : ℕ → List Rung) (is : List ℕ) → flat_map rung_of (flat_map f is) ≡ flat_map (λ i. flat_map rung_of (f i)) is
unfolding flat_map
rungs_in_lem f [] = refl
rungs_in_lem f (i ∷ is) = flat_map_append rung_of (f i) (flat_map f is) ∙ ap (λ l. flat_map rung_of (f i) ++ l) (rungs_in_lem f is)

timers_in : (c : Tables) (k n : ℕ) → timer_rungs_from k (table (timer_rung c) k n) ≡ flat_map (λ t. timer_rung_of t (timer_rung c t)) (table (λ t. t) k n)
unfolding flat_map table timer_rungs_from
timers_in c k zero = refl
timers_in c k (suc n) = ap (λ l. timer_rung_of k (timer_rung c k) ++ l) (timers_in c (suc k) n)

parts : (c : Tables) → instructions (program c) ≡ timers_to c (timer_count c) ++ (moves_to c (move_count c) ++ (copies_to c (flip_flop_count c) ++ outputs_to c c.outputs))
unfolding instructions program timers_to moves_to copies_to outputs_to
parts c =
    let ms = flat_map (move_rungs c) (table (λ i. i) 0 (move_count c)) in
    let bs = flat_map (copy_rungs c) (table (λ b. b) 0 (flip_flop_count c)) in
    let os = flat_map (output_rungs c) (table (λ o. o) 1 c.outputs) in
    ap₂ (λ x y. x ++ y) (timers_in c 1 (timer_count c))
    (flat_map_append rung_of ms (bs ++ os) ∙ ap₂ (λ x y. x ++ y) (rungs_in_lem (move_rungs c) (table (λ i. i) 0 (move_count c)))
    (flat_map_append rung_of bs os ∙ ap₂ (λ x y. x ++ y) (rungs_in_lem (copy_rungs c) (table (λ b. b) 0 (flip_flop_count c))) (rungs_in_lem (output_rungs c) (table (λ o. o) 1 c.outputs))))

pub text_parts : (c : Tables) → chart_text c ≡ (line (bytes "PROGRAM CHART") ++ declarations (timer_count c))
    ++ (lines (timers_to c (timer_count c) ++ (moves_to c (move_count c) ++ (copies_to c (flip_flop_count c) ++ outputs_to c c.outputs))) ++ line (bytes "END_PROGRAM"))
unfolding chart_text text lines
text_parts c =
    rw (program_blocks c, parts c) (sym (append_assoc (line (bytes "PROGRAM CHART")) (declarations (timer_count c)) _))

-- the parts in a row, of n outputs and d timers
pub text_put : (c : Tables) (n d : ℕ) → c.outputs ≡ n → timer_count c ≡ d → {l m₁ m₂ m₃ m₄ m₅ m : List ℕ} {p₁ p₂ p₃ p₄ p₅ r : ℕ}
    → PutIfRoom l 0 (line (bytes "PROGRAM CHART") ++ declarations d) m₁ p₁
    → PutIfRoom m₁ p₁ (lines (timers_to c (timer_count c))) m₂ p₂
    → PutIfRoom m₂ p₂ (lines (moves_to c (move_count c))) m₃ p₃
    → PutIfRoom m₃ p₃ (lines (copies_to c (flip_flop_count c))) m₄ p₄
    → PutIfRoom m₄ p₄ (lines (outputs_to c n)) m₅ p₅
    → PutIfRoom m₅ p₅ (line (bytes "END_PROGRAM")) m r
    → PutIfRoom l 0 (chart_text c) m r
text_put c n d e f {l} {m₁} {m₄ = m₄} {m₅} {p₁ = p₁} {p₄ = p₄} {p₅} h t v w o x =
    let head = subst (λ k. PutIfRoom l 0 (line (bytes "PROGRAM CHART") ++ declarations k) m₁ p₁) (sym f) h in
    let last = subst (λ k. PutIfRoom m₄ p₄ (lines (outputs_to c k)) m₅ p₅) (sym e) o in
    let cs = copies_to c (flip_flop_count c) in
    let ms = moves_to c (move_count c) in
    let os = outputs_to c c.outputs in
    rw (text_parts c) (fit_fit head (fit_fit (put_lines (timers_to c (timer_count c)) (ms ++ (cs ++ os)) t (put_lines ms (cs ++ os) v (put_lines cs os w last))) x))
