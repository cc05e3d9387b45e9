-- What a scan keeps of a controller: its lengths, bytes that are 0 or 1, and no ET above its rung's time.
use Rattle.std.specs.Prelude.{◌≡◌, refl, ℕ, suc, ◌+◌, ◌-◌, ◌≤◌, ◌<◌, min, Bool, true, false, cond, ◌&&◌, ◌||◌, List, [], ◌∷◌, length, get_or}
use Rattle.std.proofs.Common.{ap, ◌∙◌, arith, length-set, get_or-set_same, get_or-set_other}
use Rattle.std.proofs.Math.Decide.{ℕ_discrete, dec_le}
use Rattle.std.proofs.lemmas.Bool.{false≢true}
use Rattle.std.proofs.Math.ListN.{get_or-eq_default}
use Rattle.meaning.proofs.Laws.Rows.{and_l, and_r, and_both, or_l, bit_small}
use Rattle.meaning.proofs.Laws.Stores.{AllBits, set_bits}
use Rattle.meaning.specs.Programs.{Rung, TimerRung, Program, all, flip_flop_fits, output_fits, store_fits, rung_fits, program_fits}
use Rattle.meaning.specs.Scan.{Controller, MidScan, ValidController, blank, block_at, block_changed, elapsed, ton, with_in, with_pt, with_flip_flops, with_block, with_outputs, with_result, stored_in, scan_begun}
use Rattle.meaning.proofs.Laws.Effects.{body_passes, store_done, stores_done, rung_done, rungs_done, with_time, timer_rung_done, timer_rungs_done, program_done}
use Rattle.meaning.specs.declared.Block.{Block}
use Rattle.meaning.specs.declared.Operand.{Operand}
use Rattle.meaning.specs.declared.Operand.TheVariants.{Mx, Ix, Qx, TimerQ, TimerIn, TimerPt, Timer, False, True}
use Rattle.meaning.specs.declared.Operator.{Operator}
use Rattle.meaning.specs.declared.Operator.TheVariants.{Ld, Ldn, And, Andn, Or, Close, St, S, R, Cal, LdTime}

-- ---- the rungs

-- from w to w' the blocks stay, and so do the length of the flip-flop bytes and that each is 0 or 1
record Kept (w w' : MidScan) : Type 0 where
  bits : AllBits w.controller.flip_flops → AllBits w'.controller.flip_flops
  size : length w'.controller.flip_flops ≡ length w.controller.flip_flops
  blocks : w'.controller.blocks ≡ w.controller.blocks

kept_all : (w : MidScan) → Kept w w
kept_all w = record { bits = λ h. h; size = refl; blocks = refl }

kept_then : {u v w : MidScan} → Kept u v → Kept v w → Kept u w
kept_then a b = record { bits = λ h. b.bits (a.bits h); size = b.size ∙ a.size; blocks = b.blocks ∙ a.blocks }

stored_kept : (v : Bool) (o : Operand) (w : MidScan) → (flip_flop_fits o || output_fits o) ≡ true → Kept w (stored_in v o w)
unfolding stored_in with_flip_flops with_outputs flip_flop_fits output_fits
stored_kept v (Mx n) w e = record { bits = λ h. set_bits w.controller.flip_flops n (cond v 1 0) (bit_small v) h; size = length-set w.controller.flip_flops n (cond v 1 0); blocks = refl }
stored_kept v (Ix n) w e = kept_all w
stored_kept v (Qx n) w e = record { bits = λ h. h; size = refl; blocks = refl }
stored_kept v (TimerQ n) w e = kept_all w
stored_kept v (TimerIn n) w e = absurd (false≢true e)
stored_kept v (TimerPt n) w e = absurd (false≢true e)
stored_kept v (Timer n) w e = kept_all w
stored_kept v False w e = kept_all w
stored_kept v True w e = kept_all w

when_kept : (t v : Bool) (o : Operand) (w : MidScan) → flip_flop_fits o ≡ true → Kept w (cond t (stored_in v o w) w)
when_kept true v o w e = stored_kept v o w (or_l (flip_flop_fits o) (output_fits o) e)
when_kept false v o w e = kept_all w

store_kept : (v : Bool) (s : Operator) (w : MidScan) → store_fits s ≡ true → Kept w (store_done v s w)
unfolding store_done store_fits
store_kept v (Ld o) w e = kept_all w
store_kept v (Ldn o) w e = kept_all w
store_kept v (And o) w e = kept_all w
store_kept v (Andn o) w e = kept_all w
store_kept v Or w e = kept_all w
store_kept v Close w e = kept_all w
store_kept v (St o) w e = stored_kept v o w e
store_kept v (S o) w e = when_kept v true o w e
store_kept v (R o) w e = when_kept v false o w e
store_kept v (Cal o) w e = kept_all w
store_kept v (LdTime n) w e = kept_all w

stores_kept : (v : Bool) (ss : List Operator) (w : MidScan) → all store_fits ss ≡ true → Kept w (stores_done v ss w)
unfolding stores_done all
stores_kept v [] w e = kept_all w
stores_kept v (s ∷ ss) w e = kept_then (store_kept v s w (and_l (store_fits s) (all store_fits ss) e)) (stores_kept v ss (store_done v s w) (and_r (store_fits s) (all store_fits ss) e))

rung_kept : (k x : ℕ) (r : Rung) (w : MidScan) → rung_fits k r ≡ true → Kept w (rung_done x r w)
unfolding rung_done rung_fits all with_result
rung_kept k x r w e =
    let v = body_passes x w.controller r.body in
    let f : (store_fits r.store && all store_fits r.stores) ≡ true = search (and_l, and_r, and_both) in
    let a : Kept w (with_result v w) = record { bits = λ h. h; size = refl; blocks = refl } in
    kept_then a (stores_kept v (r.store ∷ r.stores) (with_result v w) f)

rungs_kept : (k x : ℕ) (rs : List Rung) (w : MidScan) → all (rung_fits k) rs ≡ true → Kept w (rungs_done x rs w)
unfolding rungs_done all
rungs_kept k x [] w e = kept_all w
rungs_kept k x (r ∷ rs) w e = kept_then (rung_kept k x r w (and_l (rung_fits k r) (all (rung_fits k) rs) e)) (rungs_kept k x rs (rung_done x r w) (and_r (rung_fits k r) (all (rung_fits k) rs) e))

-- ---- the timer rungs

-- as many blocks as timer rungs, and no ET above its rung's time
record Timely (ts : List TimerRung) (bs : List Block) : Type 0 where
  size : length bs ≡ length ts
  times : (t : ℕ) (r : TimerRung) → t < length ts → (get_or bs t blank).et ≤ (get_or ts t r).time

-- a block may change if its new ET is not above its time
changed_timely : (ts : List TimerRung) (bs : List Block) (k : ℕ) (f : Block → Block) → Timely ts bs → ((r : TimerRung) → k < length ts → (f (get_or bs k blank)).et ≤ (get_or ts k r).time) → Timely ts (block_changed bs (suc k) f)
unfolding block_changed block_at
changed_timely ts bs k f h g =
    let e : suc k - 1 ≡ k = omega arith in
    rw e (record {
      size = length-set bs k (f (get_or bs k blank)) ∙ h.size;
      times = λ t r l. elim (ℕ_discrete t k) [
        | yes y ↦ rw (y, get_or-set_same bs k (f (get_or bs k blank)) blank (omega (arith, h.size, y))) (g r (omega (arith, y)))
        | no y ↦ rw (get_or-set_other bs k t (f (get_or bs k blank)) blank y) (h.times t r l)
      ];
    })

capped : (v : Bool) (a p : ℕ) → cond v (min a p) 0 ≤ p
capped true a p = omega arith
capped false a p = omega arith

-- "IN on after on adds one scan step, up to PT"
ton_capped : (d : ℕ) (b : Block) → (ton d b).et ≤ b.pt
unfolding ton elapsed
ton_capped d b = capped (b.input && b.last) (b.et + d) b.pt

pt_here : (bs : List Block) (k p : ℕ) → k < length bs → (get_or (block_changed bs (suc k) (with_pt p)) k blank).pt ≡ p
unfolding block_changed block_at with_pt
pt_here bs k p h =
    let e : suc k - 1 ≡ k = omega arith in
    rw (e, get_or-set_same bs k (with_pt p (get_or bs k blank)) blank h)

timer_timely : (ts : List TimerRung) (d x k : ℕ) (r : TimerRung) (w : MidScan) → ((s : TimerRung) → (get_or ts k s).time ≡ r.time) → Timely ts w.controller.blocks → Timely ts (timer_rung_done d x (suc k) r w).controller.blocks
unfolding timer_rung_done with_block with_time with_result
timer_timely ts d x k r w e h =
    let v = body_passes x w.controller r.body in
    let bs = w.controller.blocks in
    let cs = block_changed bs (suc k) (with_in v) in
    let ds = block_changed cs (suc k) (with_pt r.time) in
    let a : Timely ts cs = changed_timely ts bs k (with_in v) h (λ s l. unfold with_in in (h.times k s l)) in
    let b : Timely ts ds = changed_timely ts cs k (with_pt r.time) a (λ s l. unfold with_pt in (a.times k s l)) in
    changed_timely ts ds k (ton d) b (λ s l. omega (arith, ton_capped d (get_or ds k blank), pt_here cs k r.time (omega (arith, a.size)), e s))

timers_timely : (ts : List TimerRung) (d x k : ℕ) (rs : List TimerRung) (w : MidScan) → ((t : ℕ) (s : TimerRung) → t < length rs → get_or ts (k + t) s ≡ get_or rs t s) → Timely ts w.controller.blocks
    → Timely ts (timer_rungs_done d x (suc k) rs w).controller.blocks
unfolding timer_rungs_done
timers_timely ts d x k [] w e h = h
timers_timely ts d x k (r ∷ rs) w e h =
    timers_timely ts d x (suc k) rs (timer_rung_done d x (suc k) r w)
    (λ t s l. (let z : suc k + t ≡ k + suc t = omega arith in rw z (e (suc t) s (omega arith))))
    (timer_timely ts d x k r w (λ s. (let z : k + 0 ≡ k = omega arith in ap (λ (q : TimerRung). q.time) (rw z at (e 0 s (omega arith))))) h)

timers_flips : (d x n : ℕ) (rs : List TimerRung) (w : MidScan) → (timer_rungs_done d x n rs w).controller.flip_flops ≡ w.controller.flip_flops
unfolding timer_rungs_done timer_rung_done with_block with_time with_result
timers_flips d x n [] w = refl
timers_flips d x n (r ∷ rs) w = timers_flips d x (suc n) rs (timer_rung_done d x n r w)

-- ---- the program

all_bits : (fs : List ℕ) → ((b : ℕ) → b < length fs → get_or fs b 0 ≤ 1) → AllBits fs
all_bits fs h b = elim (dec_le (suc b) (length fs)) [ yes l ↦ h b l | no l ↦ rw (get_or-eq_default fs 0 {n = b} (omega arith)) (omega arith) ]

pub program_valid : (p : Program) → program_fits p ≡ true → (d x : ℕ) (k : Controller) → ValidController p k → ValidController p (program_done d x p (scan_begun k)).controller
unfolding program_done program_fits scan_begun
program_valid p e d x k K =
    let w = timer_rungs_done d x 1 p.timers (scan_begun k) in
    let f = timers_flips d x 1 p.timers (scan_begun k) in
    let h = timers_timely p.timers d x 0 p.timers (scan_begun k) (λ t s l. (let z : 0 + t ≡ t = omega arith in rw z refl)) (record { size = K.blocks; times = K.times }) in
    let g = rungs_kept (length p.timers) x p.rungs w (search (and_r)) in
    record {
      bits = λ b l. g.bits (rw f (all_bits k.flip_flops K.bits)) b;
      size = g.size ∙ ap length f ∙ K.size;
      blocks = rw g.blocks h.size;
      times = rw g.blocks h.times;
    }
