-- One more timer, move, flip-flop or output, and the lines of its rung.
use Rattle.std.specs.Prelude.{◌≡◌, ℕ, suc, ◌+◌, ◌-◌, length, get_or}
use Rattle.std.proofs.Math.Path.{sym, ap, ap₂}
use Rattle.std.proofs.Common.{subst, ◌∙◌, arith}
use mathlib.Core.List.{List, [], ◌∷◌, ◌++◌, flat_map, append-nil}
use Rattle.meaning.proofs.Laws.Rows.{rows_snoc}
use Rattle.meaning.specs.Tables.{Tables, preset, timer_count}
use Rattle.meaning.specs.Programs.{body_of, rung_of, timer_rung_of}
use Rattle.meaning.specs.Rules.{Rules}
use Rattle.meaning.specs.Written.{pairs_body, timer_rung, rung_with, move_rungs, copy_rungs, output_rungs}
use Rattle.meaning.specs.declared.Operand.TheVariants.{Qx}
use Rattle.meaning.specs.declared.Operator.TheVariants.{St}
use Rattle.write_bodies.specs.Pairs.{Pairs}
use Rattle.write_rungs.specs.Rungs.{call_of}
use Rattle.write_rungs.specs.Sections.{timers_to, moves_to, copies_to, outputs_to}

-- ---- one more

pub timers_snoc : (c : Tables) (n : ℕ) → timers_to c (suc n) ≡ timers_to c n ++ timer_rung_of (1 + n) (timer_rung c (1 + n))
unfolding timers_to
timers_snoc c n = rows_snoc (λ t. timer_rung_of t (timer_rung c t)) 1 n

pub moves_snoc : (c : Tables) (n : ℕ) → moves_to c (suc n) ≡ moves_to c n ++ flat_map rung_of (move_rungs c (0 + n))
unfolding moves_to
moves_snoc c n = rows_snoc (λ i. flat_map rung_of (move_rungs c i)) 0 n

pub copies_snoc : (c : Tables) (n : ℕ) → copies_to c (suc n) ≡ copies_to c n ++ flat_map rung_of (copy_rungs c (0 + n))
unfolding copies_to
copies_snoc c n = rows_snoc (λ b. flat_map rung_of (copy_rungs c b)) 0 n

pub outputs_snoc : (c : Tables) (n : ℕ) → outputs_to c (suc n) ≡ outputs_to c n ++ flat_map rung_of (output_rungs c (1 + n))
unfolding outputs_to
outputs_snoc c n = rows_snoc (λ o. flat_map rung_of (output_rungs c o)) 1 n

pub preset_at : (c : Tables) (l : List ℕ) (n : ℕ) → c.presets ≡ l → get_or l n 0 ≡ preset c (n + 1)
unfolding preset
preset_at c l n e = let z : n + 1 - 1 ≡ n = omega arith in rw (z, e)

pub timer_count_lem : (c : Tables) (l : List ℕ) → c.presets ≡ l → timer_count c ≡ length l
unfolding timer_count
timer_count_lem c l e = ap length e

-- ---- rungs

module _ (c : Tables) (ps : List ℕ) where
  pub timer_pairs_lem : Rules c → c.timer_pairs ≡ ps → Pairs c (timer_count c) ps
  timer_pairs_lem R e = subst (λ l. Pairs c (timer_count c) l) e R.timer_pairs

  pub output_pairs_lem : Rules c → c.output_pairs ≡ ps → Pairs c c.outputs ps
  output_pairs_lem R e = subst (λ l. Pairs c c.outputs l) e R.output_pairs

  pub timer_lines : (n time : ℕ) → c.timer_pairs ≡ ps → time ≡ preset c n → body_of (pairs_body c ps n) ++ call_of n time ≡ timer_rung_of n (timer_rung c n)
  unfolding timer_rung_of timer_rung
  timer_lines n time e t = ap₂ (λ l x. body_of (pairs_body c l n) ++ call_of n x) (sym e) t

  pub output_lines : (o : ℕ) → c.output_pairs ≡ ps → body_of (pairs_body c ps o) ++ (St (Qx o) ∷ []) ≡ flat_map rung_of (output_rungs c o)
  unfolding flat_map output_rungs rung_with rung_of
  output_lines o e = ap (λ l. body_of (pairs_body c l o) ++ (St (Qx o) ∷ [])) (sym e) ∙ sym (append-nil _)
