-- Executing the instructions of a program that the grammar makes does what Laws/Effects.antt says.
use Rattle.std.specs.Prelude.{◌≡◌, ℕ, suc, Bool, ◌&&◌, ◌||◌, not, cond, length, set}
use Rattle.std.proofs.Math.Path.{refl, ap}
use Rattle.std.proofs.Common.{◌∙◌}
use Rattle.std.proofs.Math.Bool.{true, false, beq, and-true, and_assoc}
use Rattle.std.proofs.lemmas.Bool.{false≢true}
use mathlib.Core.List.{List, [], ◌∷◌, ◌++◌, map, flat_map, head_d}
use Rattle.meaning.proofs.Laws.Rows.{and_l, and_r, and_both}
use Rattle.meaning.specs.Programs.{Test, Chain, Part, also, bracket, Body, Rung, TimerRung, Program, load_of, and_of, chain_of, part_of, body_of, rung_of, timer_rung_of, timer_rungs_from, instructions, all, store_fits, rung_fits, program_fits}
use Rattle.meaning.specs.Scan.{MidScan, value_of, stored_in, block_called, with_flip_flops, with_block, with_outputs, with_result, executed, executed_all}
use Rattle.meaning.proofs.Laws.Effects.{test_passes, chain_passes, part_after, parts_after, body_passes, store_done, stores_done, rung_done, rungs_done, with_time, timer_rung_done, timer_rungs_done, program_done}
use Rattle.meaning.specs.declared.Operand.{Operand}
use Rattle.meaning.specs.declared.Operand.TheVariants.{Mx, Ix, Qx, TimerQ, TimerIn, TimerPt, Timer, False, True}
use Rattle.meaning.specs.declared.Operator.{Operator}
use Rattle.meaning.specs.declared.Operator.TheVariants.{Ld, Ldn, And, Andn, Or, Close, St, S, R, Cal, LdTime}

-- "IL runs left to right without precedence.": LD a, OR( LD b ), AND c, ST %QX1 stores (a or b) and c, whatever stood there before
pub left_to_right : (d x : ℕ) (a b c : Operand) (w : MidScan) → (executed_all d x (Ld a ∷ Or ∷ Ld b ∷ Close ∷ And c ∷ St (Qx 1) ∷ []) w).outputs
    ≡ set w.outputs 0 ((value_of x w.controller a || value_of x w.controller b) && value_of x w.controller c)
unfolding executed_all executed stored_in with_result with_outputs head_d
left_to_right d x a b c w = refl

-- a test is the value or its opposite
asked : (a b : Bool) → cond a b (not b) ≡ beq a b
asked true true = refl
asked true false = refl
asked false true = refl
asked false false = refl

-- a store keeps the result
pub stored_result : (v : Bool) (o : Operand) (w : MidScan) → (stored_in v o w).result ≡ w.result
unfolding stored_in with_flip_flops with_block with_outputs
stored_result v (Mx n) w = refl
stored_result v (Ix n) w = refl
stored_result v (Qx n) w = refl
stored_result v (TimerQ n) w = refl
stored_result v (TimerIn n) w = refl
stored_result v (TimerPt n) w = refl
stored_result v (Timer n) w = refl
stored_result v False w = refl
stored_result v True w = refl

-- a store that is done keeps the result
pub done_result : (v : Bool) (s : Operator) (w : MidScan) → (store_done v s w).result ≡ w.result
unfolding store_done
done_result v (Ld o) w = refl
done_result v (Ldn o) w = refl
done_result v (And o) w = refl
done_result v (Andn o) w = refl
done_result v Or w = refl
done_result v Close w = refl
done_result v (St o) w = stored_result v o w
done_result true (S o) w = stored_result true o w
done_result false (S o) w = refl
done_result true (R o) w = stored_result false o w
done_result false (R o) w = refl
done_result v (Cal o) w = refl
done_result v (LdTime n) w = refl

module _ (d x : ℕ) where
  -- two lists in a row are executed one after the other
  pub executed_append : (is js : List Operator) (w : MidScan) → executed_all d x (is ++ js) w ≡ executed_all d x js (executed_all d x is w)
  unfolding executed_all
  executed_append [] js w = refl
  executed_append (i ∷ is) js w = executed_append is js (executed d x i w)

  -- LD and LDN give the test
  load_executed : (t : Test) (w : MidScan) → executed d x (load_of t) w ≡ with_result (test_passes x w.controller t) w
  unfolding load_of executed test_passes
  load_executed t w = go t.wanted
    where
      go : (a : Bool) → executed d x (cond a (Ld t.operand) (Ldn t.operand)) w ≡ with_result (beq a (value_of x w.controller t.operand)) w
      go true = rw (← asked true (value_of x w.controller t.operand))
      go false = rw (← asked false (value_of x w.controller t.operand))

  -- AND and ANDN add the test
  and_executed : (t : Test) (w : MidScan) → executed d x (and_of t) w ≡ with_result (w.result && test_passes x w.controller t) w
  unfolding and_of executed test_passes
  and_executed t w = go t.wanted
    where
      go : (a : Bool) → executed d x (cond a (And t.operand) (Andn t.operand)) w ≡ with_result (w.result && beq a (value_of x w.controller t.operand)) w
      go true = rw (← asked true (value_of x w.controller t.operand))
      go false = rw (← asked false (value_of x w.controller t.operand))

  ands_executed : (ts : List Test) (w : MidScan) → executed_all d x (map and_of ts) w ≡ with_result (w.result && all (test_passes x w.controller) ts) w
  unfolding executed_all all with_result
  ands_executed [] w = rw and-true
  ands_executed (t ∷ ts) w = ap (executed_all d x (map and_of ts)) (and_executed t w) ∙ ands_executed ts _ ∙ rw and_assoc

  -- a bracket's lines give its chain
  pub chain_executed : (h : Chain) (w : MidScan) → executed_all d x (chain_of h) w ≡ with_result (chain_passes x w.controller h) w
  unfolding executed_all chain_of chain_passes with_result
  chain_executed h w = ap (executed_all d x (map and_of h.more)) (load_executed h.first w) ∙ ands_executed h.more _

  part_executed : (p : Part) (w : MidScan) → executed_all d x (part_of p) w ≡ with_result (part_after x w.controller w.result p) w
  unfolding executed_all executed part_of part_after with_result head_d
  part_executed (also t) w = and_executed t w
  part_executed (bracket h) w = executed_append (chain_of h) (Close ∷ []) _ ∙ ap (executed d x Close) (chain_executed h _)

  parts_executed : (ps : List Part) (w : MidScan) → executed_all d x (flat_map part_of ps) w ≡ with_result (parts_after x w.controller w.result ps) w
  unfolding executed_all flat_map parts_after with_result
  parts_executed [] w = refl
  parts_executed (p ∷ ps) w = executed_append (part_of p) (flat_map part_of ps) w ∙ ap (executed_all d x (flat_map part_of ps)) (part_executed p w) ∙ parts_executed ps _

  -- a body leaves what it comes to, and nothing else
  pub body_executed : (b : Body) (w : MidScan) → executed_all d x (body_of b) w ≡ with_result (body_passes x w.controller b) w
  unfolding executed_all body_of body_passes with_result
  body_executed b w = ap (executed_all d x (flat_map part_of b.parts)) (load_executed b.first w) ∙ parts_executed b.parts _

  -- a store does what the result says
  store_executed : (s : Operator) (w : MidScan) → store_fits s ≡ true → executed d x s w ≡ store_done w.result s w
  unfolding executed store_fits store_done
  store_executed (Ld o) w e = absurd (false≢true e)
  store_executed (Ldn o) w e = absurd (false≢true e)
  store_executed (And o) w e = absurd (false≢true e)
  store_executed (Andn o) w e = absurd (false≢true e)
  store_executed Or w e = absurd (false≢true e)
  store_executed Close w e = absurd (false≢true e)
  store_executed (St o) w e = refl
  store_executed (S o) w e = refl
  store_executed (R o) w e = refl
  store_executed (Cal o) w e = absurd (false≢true e)
  store_executed (LdTime n) w e = absurd (false≢true e)

  stores_executed : (ss : List Operator) (w : MidScan) → all store_fits ss ≡ true → executed_all d x ss w ≡ stores_done w.result ss w
  unfolding executed_all all stores_done
  stores_executed [] w e = refl
  stores_executed (s ∷ ss) w e =
      ap (executed_all d x ss) (store_executed s w (and_l (store_fits s) (all store_fits ss) e))
      ∙ stores_executed ss (store_done w.result s w) (and_r (store_fits s) (all store_fits ss) e)
      ∙ ap (λ v. stores_done v ss (store_done w.result s w)) (done_result w.result s w)

  -- a rung does its stores, by what its body comes to
  pub rung_executed : (r : Rung) → (store_fits r.store && all store_fits r.stores) ≡ true → (w : MidScan) → executed_all d x (rung_of r) w ≡ rung_done x r w
  unfolding rung_of rung_done all with_result
  rung_executed r e w = executed_append (body_of r.body) (r.store ∷ r.stores) w ∙ ap (executed_all d x (r.store ∷ r.stores)) (body_executed r.body w) ∙ stores_executed (r.store ∷ r.stores) _ e

  -- a timer rung stores IN and PT of its block and calls it
  pub timer_rung_executed : (n : ℕ) (r : TimerRung) (w : MidScan) → executed_all d x (timer_rung_of n r) w ≡ timer_rung_done d x n r w
  unfolding timer_rung_of timer_rung_done executed_all executed stored_in block_called with_result with_time
  timer_rung_executed n r w = executed_append (body_of r.body) _ w ∙ rw body_executed

  rungs_executed : (k : ℕ) (rs : List Rung) (w : MidScan) → all (rung_fits k) rs ≡ true → executed_all d x (flat_map rung_of rs) w ≡ rungs_done x rs w
  unfolding flat_map executed_all all rungs_done rung_fits
  rungs_executed k [] w e = refl
  rungs_executed k (r ∷ rs) w e =
      let a = and_l (rung_fits k r) (all (rung_fits k) rs) e in
      let f : (store_fits r.store && all store_fits r.stores) ≡ true = search (and_l, and_r, and_both) in
      executed_append (rung_of r) (flat_map rung_of rs) w ∙ ap (executed_all d x (flat_map rung_of rs)) (rung_executed r f w) ∙ rungs_executed k rs _ (and_r (rung_fits k r) (all (rung_fits k) rs) e)

  timer_rungs_executed : (n : ℕ) (rs : List TimerRung) (w : MidScan) → executed_all d x (timer_rungs_from n rs) w ≡ timer_rungs_done d x n rs w
  unfolding timer_rungs_from executed_all timer_rungs_done
  timer_rungs_executed n [] w = refl
  timer_rungs_executed n (r ∷ rs) w = executed_append (timer_rung_of n r) (timer_rungs_from (suc n) rs) w ∙ ap (executed_all d x (timer_rungs_from (suc n) rs)) (timer_rung_executed n r w) ∙ timer_rungs_executed (suc n) rs _

-- a program that the grammar makes does its timer rungs, then its rungs
pub program_executed : (p : Program) → program_fits p ≡ true → (d x : ℕ) (w : MidScan) → executed_all d x (instructions p) w ≡ program_done d x p w
unfolding program_fits instructions program_done
program_executed p e d x w = executed_append d x (timer_rungs_from 1 p.timers) (flat_map rung_of p.rungs) w ∙ ap (executed_all d x (flat_map rung_of p.rungs)) (timer_rungs_executed d x 1 p.timers w)
    ∙ rungs_executed d x (length p.timers) p.rungs _ (search (and_r))
