-- Part 1 of a chart's program: each block is called once, its ET is the machine's value, capped, and its Q says whether the timer is expired.
use Rattle.std.specs.Prelude.{◌≡◌, refl, ◌≢◌, Bool, true, false, cond, ◌&&◌, List, length, get_or, leb}
use Rattle.std.proofs.Math.Path.{ap}
use Rattle.std.proofs.Common.{◌∙◌, inl, inr, le_refl, div-lt_iff_lt-mul, length-set, get_or-set_same, get_or-set_other, set-set, leb-true, leb-false, le-leb}
use Prim.Native.Nat.{ℕ, zero, suc, ◌+◌, ◌*◌, ◌-◌, ◌/◌, ◌≤◌, ◌<◌, min}
use Rattle.std.proofs.Math.Nat.{add-zero, min-eq_left, min-eq_right}
use native.Mathlib.Omega.{arith}
use Rattle.std.proofs.Math.Decide.{ℕ_discrete, dec_le}
use Rattle.std.proofs.Math.Seq.{set_out}
use Rattle.meaning.specs.Rows.{table}
use Rattle.meaning.proofs.Laws.Rows.{which}
use Rattle.meaning.specs.Tables.{Tables, timer_count, preset, preset_steps}
use Rattle.meaning.specs.Hierarchy.{timer_runs}
use Rattle.meaning.specs.Rules.{Rules}
use Rattle.meaning.specs.Machine.{State, remembered, timer_value, active_leaf, timer_expired, timer_after, Valid}
use Rattle.meaning.specs.Scan.{Controller, MidScan, blank, block_at, block_changed, elapsed, ton, with_in, with_pt, with_block, with_result}
use Rattle.meaning.specs.Written.{pairs_body, timer_rung}
use Rattle.meaning.specs.Stands.{next_call}
use Rattle.meaning.proofs.Laws.Effects.{body_passes, with_time, timer_rung_done, timer_rungs_done}
use Rattle.meaning.proofs.Laws.Tests.{Coded, valid_leads, pairs_pass}
use Rattle.meaning.specs.declared.Block.{Block}

-- ---- blocks

changed_here : (bs : List Block) (n : ℕ) (f : Block → Block) → n - 1 < length bs → block_at (block_changed bs n f) n ≡ f (block_at bs n)
unfolding block_at block_changed
changed_here bs n f h = get_or-set_same bs (n - 1) (f (get_or bs (n - 1) blank)) blank h

changed_other : (bs : List Block) (n t : ℕ) (f : Block → Block) → 1 ≤ n → 1 ≤ t → t ≢ n → block_at (block_changed bs n f) t ≡ block_at bs t
unfolding block_at block_changed
changed_other bs n t f g h e = get_or-set_other bs (n - 1) (t - 1) (f (get_or bs (n - 1) blank)) blank (λ z. e (omega arith))

-- two changes of one block
pub changed_twice : (bs : List Block) (n : ℕ) (f g : Block → Block) → block_changed (block_changed bs n f) n g ≡ block_changed bs n (λ b. g (f b))
unfolding block_changed block_at
changed_twice bs n f g = elim (dec_le (length bs) (n - 1)) [
  | yes h ↦ rw (set_out bs (n - 1) (f (get_or bs (n - 1) blank)) h, set_out bs (n - 1) (g (get_or bs (n - 1) blank)) h, set_out bs (n - 1) (g (f (get_or bs (n - 1) blank))) h)
  | no h ↦ rw (get_or-set_same bs (n - 1) (f (get_or bs (n - 1) blank)) blank (omega arith), set-set)
]

changed_size : (bs : List Block) (n : ℕ) (f : Block → Block) → length (block_changed bs n f) ≡ length bs
unfolding block_changed
changed_size bs n f = length-set bs (n - 1) (f (block_at bs n))

-- ---- the rungs

-- of the controller of w, the blocks below Tj have been called once in w', in the state s
pub record Called (c : Tables) (s : State) (w : MidScan) (j : ℕ) (w' : MidScan) : Type 0 where
  pub flips : w'.controller.flip_flops ≡ w.controller.flip_flops
  pub outputs : w'.outputs ≡ w.outputs
  pub size : length w'.controller.blocks ≡ length w.controller.blocks
  pub done : (t : ℕ) → 1 ≤ t → t < j → block_at w'.controller.blocks t ≡ next_call c s t (block_at w.controller.blocks t)
  pub rest : (t : ℕ) → j ≤ t → block_at w'.controller.blocks t ≡ block_at w.controller.blocks t

module _ (c : Tables) (R : Rules c) (s : State) (ok : Valid c s) (x : ℕ) (w : MidScan) (C : Coded c w.controller.flip_flops 0 (remembered s.memory)) where
  -- a timer's rung calls its block, with IN where the timer runs
  timer_done : (n : ℕ) (w' : MidScan) → w'.controller.flip_flops ≡ w.controller.flip_flops → n - 1 < length w'.controller.blocks
      → (timer_rung_done c.scan_step x n (timer_rung c n) w').controller ≡ record { flip_flops = w'.controller.flip_flops; blocks = block_changed w'.controller.blocks n (next_call c s n) }
  unfolding timer_rung_done timer_rung with_block with_time with_result next_call active_leaf timer_runs
  timer_done n w' e h =
      let bs = w'.controller.blocks in
      let v = body_passes x w'.controller (pairs_body c c.timer_pairs n) in
      let on = pairs_pass c R (remembered s.memory) (valid_leads c R s ok) x w'.controller (rw e C) (timer_count c) c.timer_pairs R.timer_pairs n in
      ap {B = Controller} (λ b. record { flip_flops = w'.controller.flip_flops; blocks = b })
      (ap (λ b. block_changed b n (ton c.scan_step)) (changed_twice bs n (with_in v) (with_pt (preset c n)))
      ∙ changed_twice bs n (λ b. with_pt (preset c n) (with_in v b)) (ton c.scan_step)
      ∙ ap (λ u. block_changed bs n (λ b. ton c.scan_step (with_pt (preset c n) (with_in u b)))) on)

  called_one : (j : ℕ) (w' : MidScan) → 1 ≤ j → j ≤ length w.controller.blocks → Called c s w j w' → Called c s w (suc j) (timer_rung_done c.scan_step x j (timer_rung c j) w')
  called_one j w' g h D =
      let bs = w'.controller.blocks in
      let e = timer_done j w' D.flips (omega (arith, D.size)) in record {
        flips = rw e D.flips;
        outputs = unfold timer_rung_done with_block with_time with_result in D.outputs;
        size = rw e (changed_size bs j (next_call c s j) ∙ D.size);
        done = rw e (λ t l u. elim (ℕ_discrete t j) [
          | yes y ↦ rw y (changed_here bs j (next_call c s j) (omega (arith, D.size)) ∙ ap (next_call c s j) (D.rest j (omega arith)))
          | no y ↦ changed_other bs j t (next_call c s j) g l y ∙ D.done t l (omega arith)
        ]);
        rest = rw e (λ t l. changed_other bs j t (next_call c s j) g (omega arith) (omega arith) ∙ D.rest t (omega arith));
      }

  called_more : (n j : ℕ) (w' : MidScan) → 1 ≤ j → j + n ≤ suc (length w.controller.blocks) → Called c s w j w' → Called c s w (j + n) (timer_rungs_done c.scan_step x j (table (timer_rung c) j n) w')
  unfolding table timer_rungs_done
  called_more zero j w' g h D = rw add-zero D
  called_more (suc n) j w' g h D =
      let e : j + suc n ≡ suc j + n = omega arith in
      rw e (called_more n (suc j) (timer_rung_done c.scan_step x j (timer_rung c j) w') (omega arith) (omega arith) (called_one j w' g (omega arith) D))

  -- after part 1 every timer's block has been called once; there may be more blocks than timers
  pub timers_done : timer_count c ≤ length w.controller.blocks → Called c s w (1 + timer_count c) (timer_rungs_done c.scan_step x 1 (table (timer_rung c) 1 (timer_count c)) w)
  timers_done e = called_more (timer_count c) 1 w (omega arith) (omega arith)
      (record { flips = refl; outputs = refl; size = refl; done = λ t l u. absurd (omega arith); rest = λ t l. refl })

-- ---- what a call gives

leb_min : (p v : ℕ) → leb p (min v p) ≡ leb p v
leb_min p v = elim (which (leb p v)) [
  | inl e ↦ rw (min-eq_right {n = p} {m = v} (leb-true p v e), e) (le-leb p p (omega arith))
  | inr e ↦ rw (min-eq_left {n = v} {m = p} (let h = leb-false p v e in omega arith))
]

-- Q of a block whose ET is the machine's value, capped, says whether the timer is expired
pub call_tells : (c : Tables) (s : State) (t : ℕ) (b : Block) → (next_call c s t b).et ≡ min (timer_value s.timers t) (preset c t)
    → (next_call c s t b).q ≡ timer_expired c (active_leaf c s.memory) s.timers t
unfolding next_call ton with_pt with_in timer_expired
call_tells c s t b e = ap (λ v. timer_runs c t (active_leaf c s.memory) && v) (ap (leb (preset c t)) e ∙ leb_min (preset c t) (timer_value s.timers t))

-- N scan steps reach the preset
pub preset_steps_reach : (c : Tables) (t : ℕ) → 1 ≤ c.scan_step → preset c t ≤ preset_steps c t * c.scan_step
unfolding preset_steps
preset_steps_reach c t h = omega (arith, (div-lt_iff_lt-mul {k = c.scan_step} {x = preset c t + c.scan_step - 1} {y = suc ((preset c t + c.scan_step - 1) / c.scan_step)} h).0 (le_refl _))

capped : (u v : Bool) (t p d n : ℕ) → p ≤ n → cond (v && u) (min (min t p + d) p) 0 ≡ min (cond (u && v) (min (t + d) n) 0) p
capped true true t p d n h = omega arith
capped true false t p d n h = omega arith
capped false true t p d n h = omega arith
capped false false t p d n h = omega arith

-- the call after that gives the next value, capped
pub call_again : (c : Tables) → Rules c → (s s' : State) (t : ℕ) (b : Block) → (next_call c s t b).et ≡ min (timer_value s.timers t) (preset c t)
    → (next_call c s' t (next_call c s t b)).et ≡ min (timer_after c (active_leaf c s.memory) (active_leaf c s'.memory) s.timers t) (preset c t)
unfolding next_call ton with_pt with_in elapsed timer_after
call_again c R s s' t b e =
    ap (λ v. cond (timer_runs c t (active_leaf c s'.memory) && timer_runs c t (active_leaf c s.memory)) (min (v + c.scan_step) (preset c t)) 0) e
    ∙ capped (timer_runs c t (active_leaf c s.memory)) (timer_runs c t (active_leaf c s'.memory)) (timer_value s.timers t) (preset c t) c.scan_step (preset_steps c t * c.scan_step) (preset_steps_reach c t R.size.some_step)
