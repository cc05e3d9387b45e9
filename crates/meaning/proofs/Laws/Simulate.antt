-- One scan of a chart's program does one step of its machine (demand 2), over the effects of Laws/Effects.antt.
use Rattle.std.specs.Prelude.{◌≡◌, refl, true, false, ltb, eqb, length, get_or}
use Rattle.std.proofs.Math.Path.{sym}
use Rattle.std.proofs.Common.{ap, ◌∙◌}
use Prim.Native.Nat.{ℕ, suc, ◌+◌, ◌≤◌, ◌<◌, min}
use native.Mathlib.Omega.{arith}
use Rattle.std.proofs.Math.Decide.{dec_le}
use mathlib.Core.List.{List, ◌++◌, flat_map}
use Rattle.std.proofs.Math.ListN.{get_or-eq_default}
use Rattle.meaning.specs.Rows.{table}
use Rattle.meaning.proofs.Laws.Rows.{length_table, get_d_table}
use Rattle.meaning.specs.Tables.{Tables, move_count, timer_count, preset}
use Rattle.meaning.specs.Layout.{flip_flop_count}
use Rattle.meaning.specs.Rules.{Rules}
use Rattle.meaning.specs.Machine.{State, remembered, timer_value, active_leaf, follow, timer_after, memory_after_step, state_after_step, word_of, seen_in, seen_at_leaf, Valid}
use Rattle.meaning.specs.Programs.{all}
use Rattle.meaning.specs.Scan.{Controller, MidScan, blank, block_at, scan_begun, ValidController}
use Rattle.meaning.specs.Written.{timer_rung, move_rungs, copy_rungs, output_rungs, program}
use Rattle.meaning.specs.Stands.{next_call, StandsFor, coded_leaf}
use Rattle.meaning.proofs.Laws.Effects.{rungs_done, timer_rungs_done, program_done}
use Rattle.meaning.proofs.Laws.Tests.{any, Coded, Tells, codes_coded}
use Rattle.meaning.proofs.Laws.Stores.{AllBits}
use Rattle.meaning.proofs.Laws.Programs.{program_bytes, program_blocks}
use Rattle.meaning.proofs.Laws.Stands.{coded_follows}
use Rattle.meaning.proofs.Laws.Moves.{Amid, Copied, rungs_append, after_leads, all_moves_done, moves_known, moves_there, copies_done, copied_codes}
use Rattle.meaning.proofs.Laws.Timers.{Called, timers_done, call_tells, call_again}
use Rattle.meaning.proofs.Laws.Outputs.{Lit, outputs_done, lit_word}
use Rattle.meaning.specs.declared.Block.{Block}
use Rattle.meaning.proofs.Laws.Machine.{timer_table}

-- a controller in which the chart's program runs: bits, both halves of the flip-flops, a block for each timer. Blocks to spare do no harm.
pub record HoldsProgram (c : Tables) (k : Controller) : Type 0 where
  pub bits : AllBits k.flip_flops
  pub size : length k.flip_flops ≡ flip_flop_count c + flip_flop_count c
  pub blocks : timer_count c ≤ length k.blocks

-- what a scan leaves in w, from the controller k that stands for s
pub record Simulated (c : Tables) (x : ℕ) (k : Controller) (s : State) (w : MidScan) : Type 0 where
  pub stands : StandsFor c w.controller (state_after_step c x s)
  pub word : word_of w.outputs ≡ (seen_in c (state_after_step c x s)).outputs
  pub leaf : coded_leaf c w.controller.flip_flops ≡ (seen_in c (state_after_step c x s)).leaf
  pub bits : AllBits w.controller.flip_flops
  pub size : length w.controller.flip_flops ≡ length k.flip_flops
  pub blocks : length w.controller.blocks ≡ length k.blocks
  pub times : (t : ℕ) → t < timer_count c → (get_or w.controller.blocks t blank).et ≤ preset c (suc t)

-- the block of a row, which counts from 0
block_at_lem : (bs : List Block) (t : ℕ) → get_or bs t blank ≡ block_at bs (suc t)
unfolding block_at
block_at_lem bs t = ap (λ i. get_or bs i blank) (omega arith)

module _ (c : Tables) (R : Rules c) where
  -- the moves' rungs may stand in any order `is` in which none is missing
  pub simulates_in_order : (is : List ℕ) → all (λ i. ltb i (move_count c)) is ≡ true → ((i : ℕ) → i < move_count c → any (eqb i) is ≡ true)
      → (k : Controller) (s : State) (x : ℕ) → Valid c s → HoldsProgram c k → StandsFor c k s
      → Simulated c x k s (rungs_done x (flat_map (move_rungs c) is ++ (flat_map (copy_rungs c) (table (λ b. b) 0 (flip_flop_count c)) ++ flat_map (output_rungs c) (table (λ o. o) 1 c.outputs)))
      (timer_rungs_done c.scan_step x 1 (table (timer_rung c) 1 (timer_count c)) (scan_begun k)))
  unfolding scan_begun state_after_step seen_in seen_at_leaf active_leaf
  simulates_in_order is known there k s x ok H S = rw (rungs_append, rungs_append) (record {
    stands = record {
      flips = rw same (λ a h n. codes.0 a n);
      copies = rw same (λ a h n. codes.1 a n);
      blocks = rw (same, D.blocks, M.blocks) next;
    };
    word = lit_word c R (follow c (remembered m) 0) w3 w4 L;
    leaf = rw same (coded_follows c R w3.controller.flip_flops (remembered m) (after_leads c R x s ok) codes.0);
    bits = rw same D.bits;
    size = rw same (D.size ∙ M.size ∙ sym H.size);
    blocks = rw (same, D.blocks, M.blocks) T.size;
    times = rw (same, D.blocks, M.blocks) short;
  })
    where
      m : List ℕ
      m = memory_after_step c x s

      w1 : MidScan
      w1 = timer_rungs_done c.scan_step x 1 (table (timer_rung c) 1 (timer_count c)) (scan_begun k)

      T : Called c s (scan_begun k) (1 + timer_count c) w1
      T = timers_done c R s ok x (scan_begun k) (codes_coded c R k.flip_flops 0 s.memory S.flips) H.blocks

      tells : Tells c w1.controller.blocks s
      tells t l u = ap (λ b. b.q) (T.done t l (omega arith)) ∙ call_tells c s t (block_at k.blocks t) (S.blocks t l u)

      A : Amid c x s w1.controller.blocks w1.outputs false w1
      A = record {
        flips = rw T.flips (codes_coded c R k.flip_flops 0 s.memory S.flips);
        copies = rw T.flips (codes_coded c R k.flip_flops (flip_flop_count c) s.memory S.copies);
        bits = rw T.flips H.bits;
        size = rw T.flips H.size;
        blocks = refl;
        outputs = refl;
      }

      w2 : MidScan
      w2 = rungs_done x (flat_map (move_rungs c) is) w1

      M : Amid c x s w1.controller.blocks w1.outputs true w2
      M = all_moves_done c R x s ok w1.controller.blocks w1.outputs tells is known there w1 A

      w3 : MidScan
      w3 = rungs_done x (flat_map (copy_rungs c) (table (λ b. b) 0 (flip_flop_count c))) w2

      D : Copied c w2 (flip_flop_count c) w3
      D = copies_done c x w2 (omega (arith, M.size)) M.bits

      codes : Coded c w3.controller.flip_flops 0 (remembered m) × Coded c w3.controller.flip_flops (flip_flop_count c) (remembered m)
      codes = copied_codes c R w2 w3 D (remembered m) M.copies

      w4 : MidScan
      w4 = rungs_done x (flat_map (output_rungs c) (table (λ o. o) 1 c.outputs)) w3

      L : Lit c (follow c (remembered m) 0) c.outputs w3 w4
      L = outputs_done c R (remembered m) (after_leads c R x s ok) x w3 codes.0 (D.outputs ∙ M.outputs ∙ T.outputs)

      same : w4.controller ≡ w3.controller
      same = L.controller

      next : (t : ℕ) → 1 ≤ t → t ≤ timer_count c → (next_call c (state_after_step c x s) t (block_at w1.controller.blocks t)).et ≡ min (timer_value (state_after_step c x s).timers t) (preset c t)
      next t l u =
          ap (λ b. (next_call c (state_after_step c x s) t b).et) (T.done t l (omega arith)) ∙ call_again c R s (state_after_step c x s) t (block_at k.blocks t) (S.blocks t l u)
          ∙ ap (λ v. min v (preset c t)) (sym (timer_table (timer_after c (active_leaf c s.memory) (active_leaf c m) s.timers) (timer_count c) t l u))

      short : (t : ℕ) → t < timer_count c → (get_or w1.controller.blocks t blank).et ≤ preset c (suc t)
      short t h = omega (arith, ap (λ b. b.et) (block_at_lem w1.controller.blocks t ∙ T.done (suc t) (omega arith) (omega arith)), S.blocks (suc t) (omega arith) h)

  -- one scan of the program does one step of the machine
  pub simulates : (k : Controller) (s : State) (x : ℕ) → Valid c s → HoldsProgram c k → StandsFor c k s → Simulated c x k s (program_done c.scan_step x (program c) (scan_begun k))
  unfolding program_done program
  simulates k s x ok H S = simulates_in_order (table (λ i. i) 0 (move_count c)) (moves_known (move_count c)) (moves_there (move_count c)) k s x ok H S

  -- a valid controller of the chart's program is one in which it runs
  pub valid_holds : (k : Controller) → ValidController (program c) k → HoldsProgram c k
  valid_holds k K = record {
    bits = λ b. elim (dec_le (suc b) (length k.flip_flops)) [ yes h ↦ K.bits b h | no h ↦ rw (get_or-eq_default k.flip_flops 0 {n = b} (omega arith)) (omega arith) ];
    size = K.size ∙ program_bytes c R;
    blocks = omega (arith, K.blocks, program_blocks c);
  }

  -- and so is what a scan leaves
  pub holds_again : (k : Controller) (s : State) (x : ℕ) (w : MidScan) → Simulated c x k s w → HoldsProgram c k → HoldsProgram c w.controller
  holds_again k s x w Q H = record { bits = Q.bits; size = Q.size ∙ H.size; blocks = omega (arith, Q.blocks, H.blocks) }

  -- a scan leaves a valid controller of the chart's program
  pub valid_again : (k : Controller) (s : State) (x : ℕ) (w : MidScan) → Simulated c x k s w → ValidController (program c) k → ValidController (program c) w.controller
  unfolding program timer_rung
  valid_again k s x w Q K = record {
    bits = λ b h. Q.bits b;
    size = Q.size ∙ K.size;
    blocks = Q.blocks ∙ K.blocks;
    times = λ t r h.
        let e : 1 + t ≡ suc t = omega arith in
        let l : t < timer_count c = rw (length_table (timer_rung c) 1 (timer_count c)) at h in
        rw (get_d_table (timer_rung c) 1 (timer_count c) t r l, e) (Q.times t l);
  }
