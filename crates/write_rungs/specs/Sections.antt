-- The instructions of a chart's text, section by section.
use mathlib.Core.List.{List, flat_map}
use Rattle.std.specs.Prelude.{ℕ}
use Rattle.meaning.specs.Rows.{table}
use Rattle.meaning.specs.Tables.{Tables}
use Rattle.meaning.specs.Programs.{rung_of, timer_rung_of}
use Rattle.meaning.specs.Written.{timer_rung, move_rungs, copy_rungs, output_rungs}
use Rattle.meaning.specs.declared.Operator.{Operator}

-- the instructions of the first n timers, moves, flip-flops and outputs
unfoldable pub timers_to : Tables → ℕ → List Operator
timers_to c n = flat_map (λ t. timer_rung_of t (timer_rung c t)) (table (λ t. t) 1 n)

unfoldable pub moves_to : Tables → ℕ → List Operator
moves_to c n = flat_map (λ i. flat_map rung_of (move_rungs c i)) (table (λ i. i) 0 n)

unfoldable pub copies_to : Tables → ℕ → List Operator
copies_to c n = flat_map (λ b. flat_map rung_of (copy_rungs c b)) (table (λ b. b) 0 n)

unfoldable pub outputs_to : Tables → ℕ → List Operator
outputs_to c n = flat_map (λ o. flat_map rung_of (output_rungs c o)) (table (λ o. o) 1 n)
